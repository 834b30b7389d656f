-- Headers: their bytes, and that a header which was read stands first in the bytes, as its one spelling.
use Rattle.std.proofs.Common.{◌≡◌, ℕ, zero, suc, ◌+◌, ◌-◌, ◌*◌, ◌^◌, ◌<◌, ◌≤◌, Bool, true, false, List, [], ◌∷◌, ◌++◌, length, drop, flat_map, nat_lt, nat_le, refl, sym, ap, ◌∙◌, subst, append_assoc, lt-ltb, ltb-true, leb-true, arith, mul-le-mul_left}
use Rattle.std.proofs.lemmas.Bool.{and_parts}
use Rattle.opus_toc.specs.Toc.{config_of, stereo_of, code_of, toc_byte}
use Rattle.opus_toc.specs.Configuration.{samples_of}
use Rattle.opus_toc.proofs.Table.{samples-least, samples-most}
use Rattle.opus_flen.specs.FrameLength.{length_bytes}
use Rattle.opus_flen.specs.PaddingLength.{padding_bytes}
use Rattle.opus_flen.proofs.PaddingFrontLemmas.{padding_read-split}
use Rattle.opus_flen.proofs.PaddingReadLemmas.{padding_read-sound}
use Rattle.opus_packet.specs.declared.shape.Shape.{Shape}
use Rattle.opus_packet.specs.Value.{max_duration}
use Rattle.opus_packet.specs.Header.{Header, Sizes, equal, given, frame_count, given_lengths, count_byte, padding_length, count_and_padding, header_bytes}
use Rattle.opus_packet.specs.HeaderRead.{HeaderRead, whole, partial, refused, shape_of, header_of, vbr_of, padded_of, frames_of, is_count, header_read}
use Rattle.opus_packet.specs.PacketPrefix.{AreBytes}
use Rattle.opus_packet.proofs.BytesLemmas.{AreBytes-at, AreBytes-drop}
use Rattle.opus_packet.proofs.LengthsReadLemmas.{AreLengths, lengths_read-sound}
use Rattle.opus_packet.proofs.WayLemmas.{AfterPadding, of_equal, of_given, of_cut, AfterCount, plain, padded, padding_cut, padding_limit, Way, no_toc, one, two_equal, two_given, two_cut, no_count, bad_count, counted, way}
use Rattle.opus_packet.proofs.FirstBytes.{toc_byte-parts, count_of, count_of-parts}

-- what a code asks of VBR, the padding total and the sizes
abbrev pub SuitsSizes : ℕ → Bool → ℕ → Sizes → Type 0
SuitsSizes zero vbr pad (equal count) = (vbr ≡ false) × (pad ≡ 0) × (count ≡ 1)
SuitsSizes zero vbr pad (given lengths) = ⊥
SuitsSizes (suc zero) vbr pad (equal count) = (vbr ≡ false) × (pad ≡ 0) × (count ≡ 2)
SuitsSizes (suc zero) vbr pad (given lengths) = ⊥
SuitsSizes (suc (suc zero)) vbr pad (equal count) = ⊥
SuitsSizes (suc (suc zero)) vbr pad (given lengths) = (vbr ≡ false) × (pad ≡ 0) × (length lengths ≡ 1)
SuitsSizes (suc (suc (suc zero))) vbr pad (equal count) = (pad < 2 ^ 24) × (vbr ≡ false)
SuitsSizes (suc (suc (suc zero))) vbr pad (given lengths) = (pad < 2 ^ 24) × (vbr ≡ true)
SuitsSizes (suc (suc (suc (suc code)))) vbr pad sizes = ⊥

-- a header that some packet has
pub record IsHeader (h : Header) : Type 0 where
  pub config : h.config < 32
  pub some : 1 ≤ frame_count h.sizes
  pub lasts : frame_count h.sizes * samples_of h.config ≤ max_duration
  pub are_lengths : AreLengths (given_lengths h.sizes)
  pub suits : SuitsSizes h.shape.code h.shape.vbr h.shape.pad h.sizes

-- the bytes of a header

pub header_bytes-is : (h : Header)
    → header_bytes h ≡ toc_byte h.config h.stereo h.shape.code
    ∷ (count_and_padding h.shape (frame_count h.sizes) ++ flat_map length_bytes (given_lengths h.sizes))
unfolding header_bytes
header_bytes-is h = refl

abbrev pub header_with : ℕ → Bool → ℕ → Bool → ℕ → Sizes → Header
header_with config stereo code vbr pad sizes =
    record { config = config; stereo = stereo; shape = shape_of code vbr pad; sizes = sizes }

pub padding_length-some : (pad : ℕ) → 1 ≤ pad → padding_length pad ≡ padding_bytes pad
padding_length-some pad above = rw (lt-ltb 0 pad above)

-- a packet has few frames
pub frames-most : (config count : ℕ) → config < 32 → count * samples_of config ≤ max_duration → count ≤ 48
frames-most config count below lasts =
    let least = samples-least config below in
    let more : count * 120 ≤ count * samples_of config = mul-le-mul_left count least in
    omega arith

-- what a header that was read says of the bytes
pub record BeginsWithHeader (bs : List ℕ) (h : Header) : Type 0 where
  pub is_header : IsHeader h
  pub rest : List ℕ
  pub spelled : bs ≡ header_bytes h ++ rest

abbrev BeginsIfWhole : List ℕ → HeaderRead → Type 0
BeginsIfWhole bs (whole h) = BeginsWithHeader bs h
BeginsIfWhole bs partial = Unit {0}
BeginsIfWhole bs (refused rule place) = Unit {0}

spelled_short : (toc : ℕ) (shape : Shape) (sizes : Sizes) (bytes : List ℕ) → code_of toc ≡ shape.code
    → count_and_padding shape (frame_count sizes) ≡ [] → given_lengths sizes ≡ []
    → toc ∷ bytes ≡ header_bytes (header_of toc shape sizes) ++ bytes
spelled_short toc shape sizes bytes c front lengths =
    sym (ap (λ l. l ++ bytes) (header_bytes-is (header_of toc shape sizes))
    ∙ ap (λ l. (toc_byte (config_of toc) (stereo_of toc) shape.code
    ∷ (l ++ flat_map length_bytes (given_lengths sizes))) ++ bytes) front
    ∙ ap (λ l. (toc_byte (config_of toc) (stereo_of toc) shape.code ∷ flat_map length_bytes l) ++ bytes) lengths
    ∙ ap (λ t. t ∷ bytes) (toc_byte-parts toc shape.code c))

pub spelled_2 : (toc : ℕ) (lengths bytes rest : List ℕ) → code_of toc ≡ 2
    → bytes ≡ flat_map length_bytes lengths ++ rest
    → toc ∷ bytes ≡ header_bytes (header_of toc (shape_of 2 false 0) (given lengths)) ++ rest
spelled_2 toc lengths bytes rest c e =
    sym (ap (λ l. l ++ rest) (header_bytes-is (header_of toc (shape_of 2 false 0) (given lengths)))
    ∙ ap (λ t. t ∷ (flat_map length_bytes lengths ++ rest)) (toc_byte-parts toc 2 c)
    ∙ ap (λ l. toc ∷ l) (sym e))

pub spelled_3 : (toc count pad : ℕ) (vbr : Bool) (sizes : Sizes) (bytes rest : List ℕ) → code_of toc ≡ 3
    → count_byte (shape_of 3 vbr pad) (frame_count sizes) ≡ count
    → bytes ≡ padding_length pad ++ (flat_map length_bytes (given_lengths sizes) ++ rest)
    → toc ∷ count ∷ bytes ≡ header_bytes (header_of toc (shape_of 3 vbr pad) sizes) ++ rest
spelled_3 toc count pad vbr sizes bytes rest c counts e =
    let l = padding_length pad in
    let ls = flat_map length_bytes (given_lengths sizes) in
    let first = count_byte (shape_of 3 vbr pad) (frame_count sizes) in
    sym (ap (λ xs. xs ++ rest) (header_bytes-is (header_of toc (shape_of 3 vbr pad) sizes))
    ∙ ap (λ t. t ∷ (first ∷ ((l ++ ls) ++ rest))) (toc_byte-parts toc 3 c)
    ∙ ap (λ n. toc ∷ (n ∷ ((l ++ ls) ++ rest))) counts
    ∙ ap (λ xs. toc ∷ (count ∷ xs)) (append_assoc l ls rest ∙ sym e))

pub lasts_two : (config count : ℕ) → config < 32 → count ≤ 2 → count * samples_of config ≤ max_duration
lasts_two config count below few =
    let most = samples-most config below in
    let less : count * samples_of config ≤ count * 2880 = mul-le-mul_left count most in
    omega arith

-- what a count byte that was taken says
pub counts : (toc count : ℕ) → is_count toc count ≡ true
    → (0 < frames_of count) × (frames_of count * samples_of (config_of toc) ≤ max_duration)
counts toc count ok =
    let some = nat_lt 0 (frames_of count) in
    let short = nat_le (frames_of count * samples_of (config_of toc)) max_duration in
    let both = and_parts some short ok in (
      ltb-true 0 (frames_of count) both.0,
      leb-true (frames_of count * samples_of (config_of toc)) max_duration both.1,
    )

begins_after_padding : {toc count pad : ℕ} {rest : List ℕ} {r : HeaderRead} (bytes : List ℕ)
    → toc < 256 → count < 256 → AreBytes rest → code_of toc ≡ 3 → is_count toc count ≡ true
    → pad < 2 ^ 24 → padded_of count ≡ nat_lt 0 pad → bytes ≡ padding_length pad ++ rest
    → AfterPadding toc count pad rest r → BeginsIfWhole (toc ∷ count ∷ bytes) r
begins_after_padding {toc} {count} {pad} {rest} bytes t c bs code ok limit p e (of_equal v) =
    let said = counts toc count ok in
    let some = said.0 in
    let lasts = said.1 in
    let made : count_of false (nat_lt 0 pad) (frames_of count) ≡ count =
    ap (λ b. count_of b (nat_lt 0 pad) (frames_of count)) (sym v)
    ∙ ap (λ b. count_of (vbr_of count) b (frames_of count)) (sym p)
    ∙ count_of-parts count c in
    record {
      is_header = record {
        config = omega arith;
        some = some;
        lasts = lasts;
        are_lengths = tt;
        suits = (limit, refl);
      };
      rest = rest;
      spelled = spelled_3 toc count pad false (equal (frames_of count)) bytes rest code made e;
    }
begins_after_padding {toc} {count} {pad} {rest} bytes t c bs code ok limit p e (of_given {lengths} v read) =
    let said = counts toc count ok in
    let some = said.0 in
    let lasts = said.1 in
    let found = lengths_read-sound (frames_of count - 1) rest lengths bs read in
    let counted_are = found.counted in
    let frames : length lengths + 1 ≡ frames_of count = omega arith in
    let made : count_of true (nat_lt 0 pad) (length lengths + 1) ≡ count =
    ap (λ n. count_of true (nat_lt 0 pad) n) frames
    ∙ ap (λ b. count_of b (nat_lt 0 pad) (frames_of count)) (sym v)
    ∙ ap (λ b. count_of (vbr_of count) b (frames_of count)) (sym p)
    ∙ count_of-parts count c in
    record {
      is_header = record {
        config = omega arith;
        some = omega arith;
        lasts = subst (λ n. n * samples_of (config_of toc) ≤ max_duration) (sym frames) lasts;
        are_lengths = found.are_lengths;
        suits = (limit, refl);
      };
      rest = found.rest;
      spelled = spelled_3 toc count pad true (given lengths) bytes found.rest code made
          (e ∙ ap (λ l. padding_length pad ++ l) found.spelled);
    }
begins_after_padding bytes t c bs code ok limit p e (of_cut v read) = tt

begins_after_count : {toc count : ℕ} {bytes : List ℕ} {r : HeaderRead} → toc < 256 → count < 256
    → AreBytes bytes → code_of toc ≡ 3 → is_count toc count ≡ true
    → AfterCount toc count bytes r → BeginsIfWhole (toc ∷ count ∷ bytes) r
begins_after_count {toc} {count} {bytes} t c bs code ok (plain p after) =
    begins_after_padding bytes t c bs code ok (omega arith) p refl after
begins_after_count {toc} {count} {bytes} t c bs code ok (padded {total} {used} p read after) =
    let found = padding_read-sound bytes total used (AreBytes-at bytes bs) read in
    let split = padding_read-split bytes total used (AreBytes-at bytes bs) read in
    begins_after_padding bytes t c (AreBytes-drop used bytes bs) code ok found.below
    (p ∙ sym (lt-ltb 0 total found.above))
    (split ∙ ap (λ l. l ++ drop used bytes) (sym (padding_length-some total found.above))) after
begins_after_count t c bs code ok (padding_cut p read) = tt
begins_after_count t c bs code ok (padding_limit p read) = tt

begins : {bs : List ℕ} {r : HeaderRead} → AreBytes bs → Way bs r → BeginsIfWhole bs r
begins bytes no_toc = tt
begins bytes (one {toc} {bytes = rest} code) =
    let fits = bytes.0 in
    record {
      is_header = record {
        config = omega arith;
        some = omega arith;
        lasts = lasts_two (config_of toc) 1 (omega arith) (omega arith);
        are_lengths = tt;
        suits = (refl, refl, refl);
      };
      rest = rest;
      spelled = spelled_short toc (shape_of 0 false 0) (equal 1) rest code refl refl;
    }
begins bytes (two_equal {toc} {bytes = rest} code) =
    let fits = bytes.0 in
    record {
      is_header = record {
        config = omega arith;
        some = omega arith;
        lasts = lasts_two (config_of toc) 2 (omega arith) (omega arith);
        are_lengths = tt;
        suits = (refl, refl, refl);
      };
      rest = rest;
      spelled = spelled_short toc (shape_of 1 false 0) (equal 2) rest code refl refl;
    }
begins bytes (two_given {toc} {bytes = rest} {lengths} code read) =
    let fits = bytes.0 in
    let found = lengths_read-sound 1 rest lengths bytes.1 read in
    let single = found.counted in
    record {
      is_header = record {
        config = omega arith;
        some = omega arith;
        lasts = lasts_two (config_of toc) (length lengths + 1) (omega arith) (omega arith);
        are_lengths = found.are_lengths;
        suits = (refl, refl, single);
      };
      rest = found.rest;
      spelled = spelled_2 toc lengths rest found.rest code found.spelled;
    }
begins bytes (two_cut code read) = tt
begins bytes (no_count code) = tt
begins bytes (bad_count code bad) = tt
begins bytes (counted code ok after) = begins_after_count bytes.0 bytes.1.0 bytes.1.1 code ok after

-- a header that was read stands at the front, as its one spelling
pub header_read-begins : (bs : List ℕ) → AreBytes bs → (h : Header) → header_read bs ≡ whole h
    → BeginsWithHeader bs h
header_read-begins bs bytes h read = subst (BeginsIfWhole bs) read (begins bytes (way bs))
