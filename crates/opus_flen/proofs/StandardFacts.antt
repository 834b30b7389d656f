-- The standard's own figures, computed by the definitions.
use Rattle.std.proofs.Common.{◌≡◌, ◌+◌, ◌-◌, ◌*◌, ◌^◌, [], ◌∷◌, refl}
use Rattle.opus_flen.specs.FrameLength.{length_bytes, length_read}
use Rattle.opus_flen.specs.declared.frame_length.LenRead.TheVariants.{Len}
use Rattle.opus_flen.specs.PaddingLength.{padding_bytes, most_full, padding_read}
use Rattle.opus_flen.specs.declared.padding_length.PadRead.TheVariants.{Pad}

-- frame lengths (RFC 6716, 3.2.1)

one_byte_at_most : length_bytes 251 ≡ 251 ∷ []
one_byte_at_most = refl

two_bytes_at_least : length_bytes 252 ≡ 252 ∷ 0 ∷ []
two_bytes_at_least = refl

longest_frame : length_bytes 1275 ≡ 255 ∷ 255 ∷ []
longest_frame = refl

four_times_the_second_and_the_first : length_read (253 ∷ 7 ∷ []) ≡ Len (4 * 7 + 253) 2
four_times_the_second_and_the_first = refl

-- padding lengths (RFC 6716, 3.2.5): a byte 255 stands for 254 padding bytes, and the last byte for itself

no_padding_bytes : padding_bytes 1 ≡ 0 ∷ []
no_padding_bytes = refl

most_in_one_byte : padding_bytes 255 ≡ 254 ∷ []
most_in_one_byte = refl

two_length_bytes : padding_bytes (2 + 254 + 3) ≡ 255 ∷ 3 ∷ []
two_length_bytes = refl

read_in_two_bytes : padding_read (255 ∷ 3 ∷ 0 ∷ []) ≡ Pad (2 + 254 + 3) 2
unfolding most_full
read_in_two_bytes = refl

-- the greatest total within the limit has as many bytes 255 as are allowed, and a last byte 254
greatest_total : 255 * most_full + 254 + 1 ≡ 2 ^ 24 - 1
unfolding most_full
greatest_total = refl
