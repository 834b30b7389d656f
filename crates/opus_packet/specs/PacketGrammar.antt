-- Undelimited packets (RFC 6716, 3.2, with the rules of 3.4).
use Rattle.std.specs.Prelude.{◌≡◌, ℕ, zero, suc, ◌-◌, ◌<◌, Bool, false, ◌||◌, ◌==◌, if◌then◌else◌, List, ◌++◌, length, take, map}
use Rattle.std.specs.List.{AllByRecursion, concat}
use Rattle.opus_flen.specs.PaddingLength.{padding_limit}
use Rattle.opus_packet.specs.declared.shape.Shape.{Shape}
use Rattle.opus_packet.specs.Value.{PacketValue, IsPacketValue}
use Rattle.opus_packet.specs.Header.{Header, Sizes, equal, given, header_bytes, padding_data}

-- most bytes of a packet: 96 of a header in front of a padding total, the largest total, and all frames
abbrev pub max_packet : ℕ
max_packet = 16838511

-- all frames have one length
abbrev pub HaveOneLength : List (List ℕ) → Type 0
HaveOneLength frames = (n : ℕ) × AllByRecursion (λ frame. length frame ≡ n) frames

-- What a code, VBR and a padding total ask of the frames: code 0 has one, code 1 two of one length, code 2
-- two, code 3 any, of one length without VBR. Code 3 alone has VBR and padding.
abbrev pub SuitsCode : ℕ → Bool → ℕ → List (List ℕ) → Type 0
SuitsCode zero vbr pad frames = (vbr ≡ false) × (pad ≡ 0) × (length frames ≡ 1)
SuitsCode (suc zero) vbr pad frames =
    (vbr ≡ false) × (pad ≡ 0) × (length frames ≡ 2) × HaveOneLength frames
SuitsCode (suc (suc zero)) vbr pad frames = (vbr ≡ false) × (pad ≡ 0) × (length frames ≡ 2)
SuitsCode (suc (suc (suc zero))) vbr pad frames =
    (pad < padding_limit) × (vbr ≡ false → HaveOneLength frames)
SuitsCode (suc (suc (suc (suc code)))) vbr pad frames = ⊥

-- the same for a shape
abbrev pub Suits : Shape → List (List ℕ) → Type 0
Suits shape frames = SuitsCode shape.code shape.vbr shape.pad frames

-- code 2 and VBR give the lengths of all frames but the last
abbrev pub sizes_for : Shape → List ℕ → Sizes
sizes_for shape lengths =
    if (shape.code == 2) || shape.vbr then given (take (length lengths - 1) lengths)
    else equal (length lengths)

-- the header of a configuration and channels in a shape, with frames of these lengths
abbrev pub header_in : ℕ → Bool → Shape → List ℕ → Header
header_in config stereo shape lengths = record {
  config = config;
  stereo = stereo;
  shape = shape;
  sizes = sizes_for shape lengths;
}

-- the header of a value in a shape
abbrev pub header_for : PacketValue → Shape → Header
header_for v shape = header_in v.config v.stereo shape (map length v.frames)

-- the bytes spell the value in this shape, and tail are the padding bytes at their end, which may be any
pub record IsPacket (v : PacketValue) (shape : Shape) (tail bytes : List ℕ) : Type 0 where
  pub value : IsPacketValue v
  pub suits : Suits shape v.frames
  pub padding : length tail ≡ padding_data shape.pad
  pub spelled : bytes ≡ header_bytes (header_for v shape) ++ concat v.frames ++ tail

-- the same for some padding bytes
abbrev pub Spells : PacketValue → Shape → List ℕ → Type 0
Spells v shape bytes = (tail : List ℕ) × IsPacket v shape tail bytes

-- some value in some shape
abbrev pub IsSomePacket : List ℕ → Type 0
IsSomePacket bytes = (v : PacketValue) × (shape : Shape) × Spells v shape bytes
