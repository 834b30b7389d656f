-- The header of a packet, said by the packets that have it.
use Rattle.std.specs.Prelude.{◌≡◌, ℕ, List, ◌++◌}
use Rattle.opus_packet.specs.declared.shape.Shape.{Shape}
use Rattle.opus_packet.specs.Value.{PacketValue, IsPacketValue}
use Rattle.opus_packet.specs.Header.{Header, header_bytes}
use Rattle.opus_packet.specs.PacketGrammar.{Suits, header_for}

-- some packet has this header
pub record IsPacketHeader (h : Header) : Type 0 where
  pub value : PacketValue
  pub shape : Shape
  pub is_value : IsPacketValue value
  pub suits : Suits shape value.frames
  pub same : header_for value shape ≡ h

-- the bytes begin with its one spelling
pub record BeginsWithPacketHeader (bytes : List ℕ) (h : Header) : Type 0 where
  pub is_header : IsPacketHeader h
  pub rest : List ℕ
  pub spelled : bytes ≡ header_bytes h ++ rest
