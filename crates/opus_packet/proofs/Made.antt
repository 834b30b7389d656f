-- A header made of its parts.
use Rattle.std.proofs.Common.{◌≡◌, ℕ, ◌+◌, ◌*◌, ◌<◌, ◌≤◌, List, ◌∷◌, length, refl, sym, ap, ◌∙◌, arith, length-append}
use Rattle.std.specs.List.{flat_map}
use Rattle.std.proofs.lemmas.List.{nil_from_length}
use Rattle.std.proofs.Math.Nat.{mul-le-mul}
use Rattle.opus_toc.specs.Toc.{code_of, config_of}
use Rattle.opus_toc.specs.Configuration.{samples_of}
use Rattle.opus_flen.specs.FrameLength.{length_bytes}
use Rattle.opus_packet.specs.declared.shape.Shape.{Shape}
use Rattle.opus_packet.specs.declared.header.Sizes as declared_sizes
use Rattle.opus_packet.specs.declared.header.Header as declared_header
use Rattle.opus_packet.specs.Value.{max_duration}
use Rattle.opus_packet.specs.Header.{Header, header_bytes, count_and_padding, frame_count, given_lengths}
use Rattle.opus_packet.specs.HeaderRead.{HeaderRead, whole, partial, header_of, header_read, after_toc}
use Rattle.opus_packet.specs.HeaderStands.{HeaderStands, IsMade, AreSized, sizes_value, header_value}
use Rattle.opus_packet.proofs.HeaderLemmas.{lasts_two}

header_value-made : (first : ℕ) (shape : Shape) (sizes : declared_sizes.Sizes) (used : ℕ) (h : declared_header.Header)
    → IsMade first shape sizes used h → header_value h ≡ header_of first shape (sizes_value sizes)
header_value-made first shape sizes used h m = rw (m.config, m.stereo, m.shape_is, m.sizes_are) refl

pub length-header_bytes : (h : Header)
    → length (header_bytes h) ≡ 1 + length (count_and_padding h.shape (frame_count h.sizes)) + length (flat_map length_bytes (given_lengths h.sizes))
unfolding header_bytes
length-header_bytes h = omega (arith, length-append (count_and_padding h.shape (frame_count h.sizes)) (flat_map length_bytes (given_lengths h.sizes)))

pub stands-made : (first : ℕ) (shape : Shape) (sizes : declared_sizes.Sizes) (used : ℕ) (h : declared_header.Header) (size : ℕ) (said : HeaderRead)
    → IsMade first shape sizes used h
    → said ≡ whole (header_of first shape (sizes_value sizes))
    → used ≡ 1 + length (count_and_padding shape (frame_count (sizes_value sizes))) + length (flat_map length_bytes (given_lengths (sizes_value sizes)))
    → used ≤ size → used ≤ 65889 → shape.code ≡ code_of first → AreSized sizes
    → frame_count (sizes_value sizes) * samples_of (config_of first) ≤ max_duration
    → HeaderStands h size said
stands-made first shape sizes used h size said m says use_is within small code sized lasts =
    let value = header_value-made first shape sizes used h m in
    record {
      said_is = says ∙ ap (λ v. whole v) (sym value);
      used_is = m.used_is ∙ use_is ∙ sym (ap (λ v. length (header_bytes v)) value ∙ length-header_bytes (header_of first shape (sizes_value sizes)));
      within = rw m.used_is within;
      small = rw m.used_is small;
      tail_is = rw m.shape_is m.tail_is;
      tail_small = m.tail_small;
      code = rw m.shape_is (m.code ∙ sym code);
      sized = rw m.sizes_are sized;
      lasts = rw (m.sizes_are, m.config) lasts;
    }

-- what the first byte chooses
pub header_read-code : (bytes : List ℕ) (first : ℕ) (rest : List ℕ) (code : ℕ) → bytes ≡ first ∷ rest
    → code_of first ≡ code → header_read bytes ≡ after_toc code first rest
unfolding header_read
header_read-code bytes first rest code is c =
    ap (λ bs. header_read bs) is ∙ ap (λ k. after_toc k first rest) c

pub header_read-none : (bytes : List ℕ) → length bytes ≡ 0 → header_read bytes ≡ partial
unfolding header_read
header_read-none bytes none = ap (λ bs. header_read bs) (nil_from_length bytes none)

pub lasts-plain : (first : ℕ) → first < 256 → 2 * samples_of (config_of first) ≤ max_duration
lasts-plain first low = lasts_two (config_of first) 2 (omega arith) (omega arith)

pub product-small : (frames samples : ℕ) → frames ≤ 63 → samples ≤ 2880 → frames * samples ≤ 181440
product-small frames samples f s = mul-le-mul f s
