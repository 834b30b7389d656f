-- Reading a header, case by case: which bytes lead to which answer.
use Rattle.std.proofs.Common.{◌≡◌, ℕ, zero, suc, ◌+◌, ◌-◌, Bool, true, false, List, [], ◌∷◌, drop, Option, Some, None, if◌then◌else◌, refl, arith}
use Rattle.opus_toc.specs.Toc.{code_of}
use Rattle.opus_flen.specs.declared.padding_length.PadRead.{PadRead}
use Rattle.opus_flen.specs.declared.padding_length.PadRead.TheVariants.{Pad, Cut, Limit}
use Rattle.opus_flen.specs.PaddingLength.{padding_read}
use Rattle.opus_packet.specs.declared.fault.Rule.TheVariants.{R5, PadLimit}
use Rattle.opus_packet.specs.Header.{equal, given}
use Rattle.opus_packet.specs.HeaderRead.{HeaderRead, whole, partial, refused, lengths_read, shape_of, header_of, with_lengths, vbr_of, padded_of, frames_of, is_count, after_padding, with_padding, after_count, after_toc, header_read}

-- code 3 behind the count byte and the padding length
pub data AfterPadding (toc count pad : ℕ) (bytes : List ℕ) : HeaderRead → Type 0 where
  of_equal : vbr_of count ≡ false
      → AfterPadding toc count pad bytes (whole (header_of toc (shape_of 3 false pad) (equal (frames_of count))))
  of_given : {lengths : List ℕ} → vbr_of count ≡ true
      → lengths_read (frames_of count - 1) bytes ≡ Some lengths
      → AfterPadding toc count pad bytes (whole (header_of toc (shape_of 3 true pad) (given lengths)))
  of_cut : vbr_of count ≡ true → lengths_read (frames_of count - 1) bytes ≡ None
      → AfterPadding toc count pad bytes partial

-- code 3 behind the count byte
pub data AfterCount (toc count : ℕ) (bytes : List ℕ) : HeaderRead → Type 0 where
  plain : {r : HeaderRead} → padded_of count ≡ false → AfterPadding toc count 0 bytes r
      → AfterCount toc count bytes r
  padded : {total used : ℕ} {r : HeaderRead} → padded_of count ≡ true
      → padding_read bytes ≡ Pad total used → AfterPadding toc count total (drop used bytes) r
      → AfterCount toc count bytes r
  padding_cut : padded_of count ≡ true → padding_read bytes ≡ Cut → AfterCount toc count bytes partial
  padding_limit : {place : ℕ} → padded_of count ≡ true → padding_read bytes ≡ Limit place
      → AfterCount toc count bytes (refused PadLimit (place + 2))

-- the bytes lead to this answer
pub data Way : List ℕ → HeaderRead → Type 0 where
  no_toc : Way [] partial
  one : {toc : ℕ} {bytes : List ℕ} → code_of toc ≡ 0
      → Way (toc ∷ bytes) (whole (header_of toc (shape_of 0 false 0) (equal 1)))
  two_equal : {toc : ℕ} {bytes : List ℕ} → code_of toc ≡ 1
      → Way (toc ∷ bytes) (whole (header_of toc (shape_of 1 false 0) (equal 2)))
  two_given : {toc : ℕ} {bytes lengths : List ℕ} → code_of toc ≡ 2 → lengths_read 1 bytes ≡ Some lengths
      → Way (toc ∷ bytes) (whole (header_of toc (shape_of 2 false 0) (given lengths)))
  two_cut : {toc : ℕ} {bytes : List ℕ} → code_of toc ≡ 2 → lengths_read 1 bytes ≡ None
      → Way (toc ∷ bytes) partial
  no_count : {toc : ℕ} → code_of toc ≡ 3 → Way (toc ∷ []) partial
  bad_count : {toc count : ℕ} {bytes : List ℕ} → code_of toc ≡ 3 → is_count toc count ≡ false
      → Way (toc ∷ count ∷ bytes) (refused R5 1)
  counted : {toc count : ℕ} {bytes : List ℕ} {r : HeaderRead} → code_of toc ≡ 3
      → is_count toc count ≡ true → AfterCount toc count bytes r → Way (toc ∷ count ∷ bytes) r

-- each answer has its way

after_padding_way : (toc count pad : ℕ) (bytes : List ℕ)
    → AfterPadding toc count pad bytes (after_padding toc count pad bytes)
after_padding_way toc count pad bytes = go (vbr_of count) refl
  where
    sized : (o : Option (List ℕ)) → vbr_of count ≡ true → lengths_read (frames_of count - 1) bytes ≡ o
        → AfterPadding toc count pad bytes (with_lengths toc (shape_of 3 true pad) o)
    sized (Some lengths) v e = of_given v e
    sized None v e = of_cut v e

    go : (v : Bool) → vbr_of count ≡ v
        → AfterPadding toc count pad bytes
        (if v then with_lengths toc (shape_of 3 true pad) (lengths_read (frames_of count - 1) bytes)
        else whole (header_of toc (shape_of 3 false pad) (equal (frames_of count))))
    go true v = sized (lengths_read (frames_of count - 1) bytes) v refl
    go false v = of_equal v

after_count_way : (toc count : ℕ) (bytes : List ℕ) → AfterCount toc count bytes (after_count toc count bytes)
after_count_way toc count bytes = go (padded_of count) refl
  where
    read : (r : PadRead) → padded_of count ≡ true → padding_read bytes ≡ r
        → AfterCount toc count bytes (with_padding toc count bytes r)
    read (Pad total used) p e = padded p e (after_padding_way toc count total (drop used bytes))
    read Cut p e = padding_cut p e
    read (Limit place) p e = padding_limit p e

    go : (p : Bool) → padded_of count ≡ p
        → AfterCount toc count bytes
        (if p then with_padding toc count bytes (padding_read bytes) else after_padding toc count 0 bytes)
    go true p = read (padding_read bytes) p refl
    go false p = plain p (after_padding_way toc count 0 bytes)

after_toc_way : (code toc : ℕ) (bytes : List ℕ) → code_of toc ≡ code
    → Way (toc ∷ bytes) (after_toc code toc bytes)
after_toc_way zero toc bytes e = one e
after_toc_way (suc zero) toc bytes e = two_equal e
after_toc_way (suc (suc zero)) toc bytes e = go (lengths_read 1 bytes) refl
  where
    go : (o : Option (List ℕ)) → lengths_read 1 bytes ≡ o
        → Way (toc ∷ bytes) (with_lengths toc (shape_of 2 false 0) o)
    go (Some lengths) read = two_given e read
    go None read = two_cut e read
after_toc_way (suc (suc (suc code))) toc [] e = no_count (omega arith)
after_toc_way (suc (suc (suc code))) toc (count ∷ bytes) e = go (is_count toc count) refl
  where
    go : (b : Bool) → is_count toc count ≡ b
        → Way (toc ∷ count ∷ bytes) (if b then after_count toc count bytes else refused R5 1)
    go true ok = counted (omega arith) ok (after_count_way toc count bytes)
    go false bad = bad_count (omega arith) bad

pub way : (bs : List ℕ) → Way bs (header_read bs)
unfolding header_read
way [] = no_toc
way (toc ∷ bytes) = after_toc_way (code_of toc) toc bytes refl

-- and each way its answer

from_after_padding : {toc count pad : ℕ} {bytes : List ℕ} {r : HeaderRead}
    → AfterPadding toc count pad bytes r → after_padding toc count pad bytes ≡ r
from_after_padding (of_equal v) = rw v
from_after_padding (of_given v read) = rw (v, read)
from_after_padding (of_cut v read) = rw (v, read)

from_after_count : {toc count : ℕ} {bytes : List ℕ} {r : HeaderRead}
    → AfterCount toc count bytes r → after_count toc count bytes ≡ r
from_after_count (plain p after) = rw p (from_after_padding after)
from_after_count (padded p read after) = rw (p, read) (from_after_padding after)
from_after_count (padding_cut p read) = rw (p, read)
from_after_count (padding_limit p read) = rw (p, read)

pub from_way : {bs : List ℕ} {r : HeaderRead} → Way bs r → header_read bs ≡ r
unfolding header_read
from_way no_toc = refl
from_way (one e) = rw e
from_way (two_equal e) = rw e
from_way (two_given e read) = rw (e, read)
from_way (two_cut e read) = rw (e, read)
from_way (no_count e) = rw e
from_way (bad_count e bad) = rw (e, bad)
from_way (counted e ok after) = rw (e, ok) (from_after_count after)
