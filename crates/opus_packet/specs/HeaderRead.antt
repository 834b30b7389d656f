-- What the first bytes of a packet say, as far as they go.
use Rattle.std.specs.Prelude.{ℕ, zero, suc, ◌+◌, ◌-◌, ◌*◌, ◌/◌, ◌%◌, Bool, true, false, ◌&&◌, ◌==◌, nat_lt, nat_le, if◌then◌else◌, List, [], ◌∷◌, drop, Option, Some, None, option_map}
use Rattle.opus_toc.specs.Toc.{config_of, stereo_of, code_of}
use Rattle.opus_toc.specs.Configuration.{samples_of}
use Rattle.opus_flen.specs.declared.frame_length.LenRead.{LenRead}
use Rattle.opus_flen.specs.declared.frame_length.LenRead.TheVariants as frame_length
use Rattle.opus_flen.specs.FrameLength.{length_read}
use Rattle.opus_flen.specs.declared.padding_length.PadRead.{PadRead}
use Rattle.opus_flen.specs.declared.padding_length.PadRead.TheVariants as padding_length
use Rattle.opus_flen.specs.PaddingLength.{padding_read}
use Rattle.opus_packet.specs.declared.fault.Rule.{Rule}
use Rattle.opus_packet.specs.declared.fault.Rule.TheVariants.{R5, PadLimit}
use Rattle.opus_packet.specs.declared.shape.Shape.{Shape}
use Rattle.opus_packet.specs.Value.{max_duration}
use Rattle.opus_packet.specs.Header.{Header, Sizes, equal, given}

-- a header stands first; or the bytes are a part of one; or no header begins as the bytes up to and with
-- the one at this place do, which breaks this rule
pub data HeaderRead : Type 0 where
  whole : Header → HeaderRead
  partial : HeaderRead
  refused : Rule → ℕ → HeaderRead

-- a length that was read, and then the others behind the bytes that it used
abbrev pub lengths_after : LenRead → (ℕ → Option (List ℕ)) → Option (List ℕ)
lengths_after (frame_length.Len n used) rest = option_map (λ ns. n ∷ ns) (rest used)
lengths_after frame_length.Cut rest = None

-- so many lengths, one after another
abbrev pub lengths_read : ℕ → List ℕ → Option (List ℕ)
lengths_read zero bytes = Some []
lengths_read (suc count) bytes =
    lengths_after (length_read bytes) (λ used. lengths_read count (drop used bytes))

-- the shape of these parts
abbrev pub shape_of : ℕ → Bool → ℕ → Shape
shape_of code vbr pad = record { code = code; vbr = vbr; pad = pad }

-- the header with this TOC byte
abbrev pub header_of : ℕ → Shape → Sizes → Header
header_of toc shape sizes =
    record { config = config_of toc; stereo = stereo_of toc; shape = shape; sizes = sizes }

-- the header with the lengths of all frames but the last, where these are whole
abbrev pub with_lengths : ℕ → Shape → Option (List ℕ) → HeaderRead
with_lengths toc shape (Some lengths) = whole (header_of toc shape (given lengths))
with_lengths toc shape None = partial

-- the parts of a count byte (RFC 6716, 3.2.5): bit 7 is VBR
abbrev pub vbr_of : ℕ → Bool
vbr_of count = nat_le 128 count

-- bit 6 says that padding follows
abbrev pub padded_of : ℕ → Bool
padded_of count = (count / 64) % 2 == 1

-- the lower six bits are the number of frames
abbrev pub frames_of : ℕ → ℕ
frames_of count = count % 64

-- a packet has one frame or more, and lasts 120 ms or less
abbrev pub is_count : ℕ → ℕ → Bool
is_count toc count =
    nat_lt 0 (frames_of count) && nat_le (frames_of count * samples_of (config_of toc)) max_duration

-- code 3 behind the count byte and the padding length
abbrev pub after_padding : ℕ → ℕ → ℕ → List ℕ → HeaderRead
after_padding toc count pad bytes =
    if vbr_of count
    then with_lengths toc (shape_of 3 true pad) (lengths_read (frames_of count - 1) bytes)
    else whole (header_of toc (shape_of 3 false pad) (equal (frames_of count)))

-- code 3 behind the count byte, by what its padding length says
abbrev pub with_padding : ℕ → ℕ → List ℕ → PadRead → HeaderRead
with_padding toc count bytes (padding_length.Pad total used) =
    after_padding toc count total (drop used bytes)
with_padding toc count bytes padding_length.Cut = partial
with_padding toc count bytes (padding_length.Limit place) = refused PadLimit (place + 2)

-- code 3 behind the count byte
abbrev pub after_count : ℕ → ℕ → List ℕ → HeaderRead
after_count toc count bytes =
    if padded_of count then with_padding toc count bytes (padding_read bytes)
    else after_padding toc count 0 bytes

-- what follows a TOC byte of this code
abbrev pub after_toc : ℕ → ℕ → List ℕ → HeaderRead
after_toc zero toc bytes = whole (header_of toc (shape_of 0 false 0) (equal 1))
after_toc (suc zero) toc bytes = whole (header_of toc (shape_of 1 false 0) (equal 2))
after_toc (suc (suc zero)) toc bytes =
    with_lengths toc (shape_of 2 false 0) (lengths_read 1 bytes)
after_toc (suc (suc (suc code))) toc [] = partial
after_toc (suc (suc (suc code))) toc (count ∷ bytes) =
    if is_count toc count then after_count toc count bytes else refused R5 1

-- what the first bytes say
unfoldable pub header_read : List ℕ → HeaderRead
header_read [] = partial
header_read (toc ∷ bytes) = after_toc (code_of toc) toc bytes
