-- Lemmas on headers: what is read is spelled so, what is spelled so is read, and what is refused stays so.
use Rattle.std.proofs.Common.{◌≡◌, ℕ, suc, ◌+◌, ◌<◌, true, false, List, ◌∷◌, ◌++◌, length, take, ap, ◌∙◌, subst, arith}
use Rattle.opus_toc.specs.Toc.{code_of}
use Rattle.opus_flen.specs.PaddingLength.{padding_read}
use Rattle.opus_flen.specs.declared.padding_length.PadRead.TheVariants.{Limit}
use Rattle.opus_flen.proofs.PaddingFrontLemmas.{padding_read-limit_more, padding_read-limit_place}
use Rattle.opus_packet.specs.declared.fault.Rule.{Rule}
use Rattle.opus_packet.specs.declared.fault.Rule.TheVariants.{R5, PadLimit}
use Rattle.opus_packet.specs.HeaderRead.{HeaderRead, whole, partial, refused, padded_of, is_count, header_read}
use Rattle.opus_packet.proofs.WayLemmas.{AfterPadding, of_equal, of_given, of_cut, AfterCount, plain, padded, padding_cut, padding_limit, Way, no_toc, one, two_equal, two_given, two_cut, no_count, bad_count, counted, way, from_way}
pub use Rattle.opus_packet.proofs.HeaderBegins.{SuitsSizes, IsHeader, header_bytes-is, header_with, padding_length-some, frames-most, BeginsWithHeader, spelled_2, spelled_3, lasts_two, counts, header_read-begins}
pub use Rattle.opus_packet.proofs.HeaderSpelled.{is_count-from, count_way, header_read-spelled, header_read-more}

-- what is refused, and where

-- the count byte, or a byte of the padding length
pub data Refused : List ℕ → Rule → ℕ → Type 0 where
  at_count : {toc count : ℕ} {bytes : List ℕ} → code_of toc ≡ 3 → is_count toc count ≡ false
      → Refused (toc ∷ count ∷ bytes) R5 1
  at_padding : {toc count place : ℕ} {bytes : List ℕ} → code_of toc ≡ 3 → is_count toc count ≡ true
      → padded_of count ≡ true → padding_read bytes ≡ Limit place
      → Refused (toc ∷ count ∷ bytes) PadLimit (place + 2)

abbrev RefusedIf : List ℕ → HeaderRead → Type 0
RefusedIf bs (whole h) = Unit {0}
RefusedIf bs partial = Unit {0}
RefusedIf bs (refused rule place) = Refused bs rule place

refused_padding : {toc count pad : ℕ} {rest : List ℕ} {r : HeaderRead} (bytes : List ℕ)
    → AfterPadding toc count pad rest r → RefusedIf bytes r
refused_padding bytes (of_equal v) = tt
refused_padding bytes (of_given v read) = tt
refused_padding bytes (of_cut v read) = tt

refused_count : {toc count : ℕ} {bytes : List ℕ} {r : HeaderRead} → code_of toc ≡ 3
    → is_count toc count ≡ true → AfterCount toc count bytes r → RefusedIf (toc ∷ count ∷ bytes) r
refused_count {toc} {count} {bytes} code ok (plain p after) = refused_padding (toc ∷ count ∷ bytes) after
refused_count {toc} {count} {bytes} code ok (padded p read after) =
    refused_padding (toc ∷ count ∷ bytes) after
refused_count code ok (padding_cut p read) = tt
refused_count code ok (padding_limit p read) = at_padding code ok p read

refused_by : {bs : List ℕ} {r : HeaderRead} → Way bs r → RefusedIf bs r
refused_by no_toc = tt
refused_by (one code) = tt
refused_by (two_equal code) = tt
refused_by (two_given code read) = tt
refused_by (two_cut code read) = tt
refused_by (no_count code) = tt
refused_by (bad_count code bad) = at_count code bad
refused_by (counted code ok after) = refused_count code ok after

pub header_read-refused : (bs : List ℕ) (rule : Rule) (place : ℕ) → header_read bs ≡ refused rule place → Refused bs rule place
header_read-refused bs rule place read = subst (RefusedIf bs) read (refused_by (way bs))

pub Refused-read : {bs : List ℕ} {rule : Rule} {place : ℕ} → Refused bs rule place → header_read bs ≡ refused rule place
Refused-read (at_count code bad) = from_way (bad_count code bad)
Refused-read (at_padding code ok p read) = from_way (counted code ok (padding_limit p read))

Refused-more : {bs : List ℕ} {rule : Rule} {place : ℕ} (more : List ℕ) → Refused bs rule place → Refused (bs ++ more) rule place
Refused-more more (at_count code bad) = at_count code bad
Refused-more more (at_padding {place} {bytes} code ok p read) =
    at_padding code ok p (padding_read-limit_more bytes place read more)

-- bytes behind what is refused change nothing
pub header_read-refused_more : (bs : List ℕ) (rule : Rule) (place : ℕ) → header_read bs ≡ refused rule place
    → (more : List ℕ) → header_read (bs ++ more) ≡ refused rule place
header_read-refused_more bs rule place read more = Refused-read (Refused-more more (header_read-refused bs rule place read))

-- the bytes before the place are a part of a header, and the one at it is refused
pub record IsRefusedAt (bs : List ℕ) (rule : Rule) (place : ℕ) : Type 0 where
  pub within : place < length bs
  pub before : header_read (take place bs) ≡ partial
  pub there : header_read (take (place + 1) bs) ≡ refused rule place

refused_at : {bs : List ℕ} {rule : Rule} {place : ℕ} → Refused bs rule place → IsRefusedAt bs rule place
refused_at (at_count {toc} {count} {bytes} code bad) = record {
  within = omega arith;
  before = from_way (no_count code);
  there = from_way (bad_count code bad);
}
refused_at (at_padding {toc} {count} {place} {bytes} code ok p read) =
    let found = padding_read-limit_place bytes place read in
    let inside = found.1 in
    let all = toc ∷ count ∷ bytes in
    let front : place + 2 ≡ suc (suc place) = omega arith in
    let up_to : place + 2 + 1 ≡ suc (suc (place + 1)) = omega arith in
    record {
      within = omega arith;
      before = ap (λ n. header_read (take n all)) front
          ∙ from_way (counted code ok (padding_cut p found.3));
      there = ap (λ n. header_read (take n all)) up_to
          ∙ from_way (counted code ok (padding_limit p found.2));
    }

pub header_read-refused_at : (bs : List ℕ) (rule : Rule) (place : ℕ) → header_read bs ≡ refused rule place
    → IsRefusedAt bs rule place
header_read-refused_at bs rule place read = refused_at (header_read-refused bs rule place read)
