-- A packet as it was read: what a contract sees of a `Packet`.
use Rattle.std.specs.Prelude.{ℕ}
use Rattle.opus_packet.specs.declared.shape.Shape.{Shape}
use Rattle.opus_packet.specs.Value.{PacketValue}
use Rattle.opus_packet.specs.Tail.{TailRead}

-- the value, the shape that it was spelled in, all bytes of the spelling, padding included, and the padding
-- bytes at its end
pub record PacketRead : Type 0 where
  pub value : PacketValue
  pub shape : Shape
  pub size : ℕ
  pub tail : TailRead
