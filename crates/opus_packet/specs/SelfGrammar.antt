-- Self-delimited packets (RFC 6716, Appendix B): one more length stands behind all other header bytes, that
-- of the last frame, so that the packet says itself where it ends.
use Rattle.std.specs.Prelude.{◌≡◌, ℕ, ◌≤◌, List, [], ◌∷◌, ◌++◌, length, take, map}
use Rattle.std.specs.List.{concat}
use Rattle.opus_flen.specs.FrameLength.{length_bytes}
use Rattle.opus_packet.specs.declared.shape.Shape.{Shape}
use Rattle.opus_packet.specs.Value.{PacketValue, IsPacketValue}
use Rattle.opus_packet.specs.Header.{header_bytes, padding_data}
use Rattle.opus_packet.specs.PacketGrammar.{Suits, header_for}

-- the last of some lengths
abbrev pub last_length : List ℕ → ℕ
last_length [] = 0
last_length (n ∷ []) = n
last_length (n ∷ m ∷ ns) = last_length (m ∷ ns)

-- the header of a value in a shape, with the length of the last frame
abbrev pub self_header_bytes : PacketValue → Shape → List ℕ
self_header_bytes v shape =
    header_bytes (header_for v shape) ++ length_bytes (last_length (map length v.frames))

-- the bytes spell the value in this shape, and tail are the padding bytes at their end, which may be any
pub record IsSelfDelimited (v : PacketValue) (shape : Shape) (tail bytes : List ℕ) : Type 0 where
  pub value : IsPacketValue v
  pub suits : Suits shape v.frames
  pub padding : length tail ≡ padding_data shape.pad
  pub spelled : bytes ≡ self_header_bytes v shape ++ concat v.frames ++ tail

-- the same for some padding bytes
abbrev pub SpellsSelf : PacketValue → Shape → List ℕ → Type 0
SpellsSelf v shape bytes = (tail : List ℕ) × IsSelfDelimited v shape tail bytes

-- some value in some shape
abbrev pub IsSomeSelfDelimited : List ℕ → Type 0
IsSomeSelfDelimited bytes = (v : PacketValue) × (shape : Shape) × SpellsSelf v shape bytes

-- the first used bytes spell the value
pub record BeginsWithSelf (v : PacketValue) (shape : Shape) (used : ℕ) (bytes : List ℕ) : Type 0 where
  pub within : used ≤ length bytes
  pub spelled : SpellsSelf v shape (take used bytes)
