-- The header of a packet: its bytes before the frames (RFC 6716, 3.2).
use Rattle.std.specs.Prelude.{ℕ, ◌+◌, ◌-◌, ◌*◌, Bool, nat_lt, ◌==◌, if◌then◌else◌, List, [], ◌∷◌, ◌++◌, length, replicate, sum, flat_map}
use Rattle.opus_toc.specs.Toc.{toc_byte}
use Rattle.opus_flen.specs.FrameLength.{length_bytes}
use Rattle.opus_flen.specs.PaddingLength.{padding_bytes}
use Rattle.opus_packet.specs.declared.shape.Shape.{Shape}

-- most bytes of a header: the TOC byte, the count byte, 65,793 of a padding length, and 94 of 47 lengths
abbrev pub max_header : ℕ
max_header = 65889

-- what a header says of the frames' lengths: so many of one length; or the lengths of all frames but the last
pub data Sizes : Type 0 where
  equal : ℕ → Sizes
  given : List ℕ → Sizes

-- a header, with the shape that it gives the packet
pub record Header : Type 0 where
  pub config : ℕ
  pub stereo : Bool
  pub shape : Shape
  pub sizes : Sizes

-- how many frames there are
abbrev pub frame_count : Sizes → ℕ
frame_count (equal count) = count
frame_count (given lengths) = length lengths + 1

-- the lengths that stand in the header
abbrev pub given_lengths : Sizes → List ℕ
given_lengths (equal count) = []
given_lengths (given lengths) = lengths

-- all lengths, where the last one is n
abbrev pub frame_lengths : Sizes → ℕ → List ℕ
frame_lengths (equal count) n = replicate count n
frame_lengths (given lengths) n = lengths ++ n ∷ []

-- the bytes of all frames, where the last one has n
abbrev pub body_size : Sizes → ℕ → ℕ
body_size (equal count) n = count * n
body_size (given lengths) n = sum lengths + n

-- the count byte of code 3: VBR, padding, and the number of frames (3.2.5)
abbrev pub count_byte : Shape → ℕ → ℕ
count_byte shape count =
    128 * (if shape.vbr then 1 else 0) + 64 * (if nat_lt 0 shape.pad then 1 else 0) + count

-- the padding length, where there is padding
abbrev pub padding_length : ℕ → List ℕ
padding_length pad = if nat_lt 0 pad then padding_bytes pad else []

-- how many padding bytes follow the frames: the padding total less its length bytes
abbrev pub padding_data : ℕ → ℕ
padding_data pad = pad - length (padding_length pad)

-- what code 3 has behind the TOC byte
abbrev pub count_and_padding : Shape → ℕ → List ℕ
count_and_padding shape count =
    if shape.code == 3 then count_byte shape count ∷ padding_length shape.pad else []

-- the one spelling of a header
unfoldable pub header_bytes : Header → List ℕ
header_bytes h =
    toc_byte h.config h.stereo h.shape.code
    ∷ (count_and_padding h.shape (frame_count h.sizes) ++ flat_map length_bytes (given_lengths h.sizes))
