-- The value whose frames follow a header.
use Rattle.std.specs.Prelude.{ℕ, List, take}
use Rattle.opus_packet.specs.Value.{PacketValue}
use Rattle.opus_packet.specs.Header.{Header, body_size}
use Rattle.opus_packet.specs.HeaderStands.{value_with}

-- its frames stand first in the bytes, and the last one has n of them
abbrev pub value_behind : Header → ℕ → List ℕ → PacketValue
value_behind h n bytes = value_with h n (take (body_size h.sizes n) bytes)
