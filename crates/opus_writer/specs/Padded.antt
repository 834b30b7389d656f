-- The form of a value that has a given size: this project's own choice among the spellings of RFC 6716.
use Rattle.std.specs.Prelude.{ℕ, ◌-◌, not, ◌==◌, if◌then◌else◌, List, ◌++◌, length, map, replicate}
use Rattle.std.specs.List.{concat}
use Rattle.opus_packet.specs.declared.shape.Shape.{Shape}
use Rattle.opus_packet.specs.Value.{PacketValue}
use Rattle.opus_packet.specs.Header.{header_bytes, padding_data}
use Rattle.opus_packet.specs.HeaderRead.{shape_of}
use Rattle.opus_packet.specs.PacketGrammar.{header_for, IsPacket}
use Rattle.opus_packet.specs.Canonical.{have_one_length, canonical}

-- code 3 with so much padding, with VBR where the lengths differ
abbrev pub padded_shape : PacketValue → ℕ → Shape
padded_shape v pad = shape_of 3 (not (have_one_length (map length v.frames))) pad

-- the value in that shape: zeros are its padding bytes
unfoldable pub padded_by : PacketValue → ℕ → List ℕ
padded_by v pad =
    header_bytes (header_for v (padded_shape v pad)) ++ concat v.frames ++ replicate (padding_data pad) 0

-- the padding total that makes so many bytes of it
abbrev pub padding_for : PacketValue → ℕ → ℕ
padding_for v size = size - length (padded_by v 0)

-- the form of this size: the canonical form where it has the size, and code 3 with padding otherwise
abbrev pub padded_to : PacketValue → ℕ → List ℕ
padded_to v size =
    if size == length (canonical v) then canonical v else padded_by v (padding_for v size)

-- a packet of the value whose padding bytes are zeros
pub record IsZeroPadded (v : PacketValue) (bytes : List ℕ) : Type 0 where
  pub shape : Shape
  pub count : ℕ
  pub is_packet : IsPacket v shape (replicate count 0) bytes
