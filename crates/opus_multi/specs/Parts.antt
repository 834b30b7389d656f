-- What is kept of the packet of one stream.
use Rattle.std.specs.Prelude.{ℕ}
use Rattle.opus_packet.specs.Read.{PacketRead}
use Rattle.opus_packet.specs.Held.{HeldRead}
use Rattle.opus_packet.specs.Tail.{TailRead, kept, counted, kept_bytes}

-- its value with the padding bytes that are there
abbrev pub held_in : PacketRead → HeldRead
held_in p = record { value = p.value; tail = kept_bytes p.tail }

-- how many padding bytes aren't kept
abbrev pub dropped_of : TailRead → ℕ
dropped_of (kept bytes) = 0
dropped_of (counted count) = count
