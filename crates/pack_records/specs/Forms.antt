-- When a packet is spelled in its kept form.
use Rattle.std.specs.Prelude.{◌≡◌, ℕ, List, length, map}
use Rattle.opus_packet.specs.Read.{PacketRead}
use Rattle.opus_packet.specs.Tail.{kept_bytes}
use Rattle.opus_packet.specs.Canonical.{keep_shape}
use Rattle.opus_feed.specs.declared.padding.Padding.{Padding}
use Rattle.opus_feed.specs.Tails.{tail_kept}

-- a packet is spelled in its kept form, with these padding bytes, which are all kept
pub record IsFormOf (padding : Padding) (packet : PacketRead) (tail : List ℕ) : Type 0 where
  pub shape : packet.shape ≡ keep_shape (map length packet.value.frames) (length tail)
  pub kept : kept_bytes (tail_kept padding tail) ≡ tail
