-- A TOC byte of a known code and a count byte, put together from their parts.
use Rattle.std.proofs.Common.{◌≡◌, ℕ, ◌+◌, ◌*◌, ◌/◌, ◌%◌, ◌<◌, ◌≤◌, Bool, true, false, if◌then◌else◌, refl, sym, ap, ◌∙◌, arith, eqb-true, eq-eqb, ne_eqb, leb-true, leb-false, le-leb}
use Rattle.std.proofs.lemmas.Bool.{eqb-false, lt-leb}
use Rattle.opus_toc.specs.Toc.{config_of, stereo_of, code_of, toc_byte}
use Rattle.opus_toc.proofs.TocLemmas.{toc_byte-of_parts}
use Rattle.opus_packet.specs.HeaderRead.{vbr_of, padded_of, frames_of}

-- a TOC byte is put together from its parts
pub toc_byte-parts : (toc code : ℕ) → code_of toc ≡ code
    → toc_byte (config_of toc) (stereo_of toc) code ≡ toc
toc_byte-parts toc code c =
    ap (toc_byte (config_of toc) (stereo_of toc)) (sym c) ∙ toc_byte-of_parts toc

-- the count byte with these parts
abbrev pub count_of : Bool → Bool → ℕ → ℕ
count_of vbr padded count = 128 * (if vbr then 1 else 0) + 64 * (if padded then 1 else 0) + count

count_by : (count : ℕ) (vbr padded : Bool) → count < 256 → vbr_of count ≡ vbr
    → padded_of count ≡ padded → count_of vbr padded (frames_of count) ≡ count
count_by count true true fits v p =
    let high : 128 ≤ count = leb-true 128 count v in
    let odd : (count / 64) % 2 ≡ 1 = eqb-true ((count / 64) % 2) 1 p in
    omega arith
count_by count true false fits v p =
    let high : 128 ≤ count = leb-true 128 count v in
    let even = eqb-false ((count / 64) % 2) 1 p in
    omega arith
count_by count false true fits v p =
    let low : count < 128 = leb-false 128 count v in
    let odd : (count / 64) % 2 ≡ 1 = eqb-true ((count / 64) % 2) 1 p in
    omega arith
count_by count false false fits v p =
    let low : count < 128 = leb-false 128 count v in
    let even = eqb-false ((count / 64) % 2) 1 p in
    omega arith

-- a count byte is put together from its parts
pub count_of-parts : (count : ℕ) → count < 256
    → count_of (vbr_of count) (padded_of count) (frames_of count) ≡ count
count_of-parts count fits = count_by count (vbr_of count) (padded_of count) fits refl refl

-- and its parts are those that it was put together from
pub vbr_of-count_of : (vbr padded : Bool) (count : ℕ) → count < 64 → vbr_of (count_of vbr padded count) ≡ vbr
vbr_of-count_of true true count below = le-leb 128 (128 * 1 + 64 * 1 + count) (omega arith)
vbr_of-count_of true false count below = le-leb 128 (128 * 1 + 64 * 0 + count) (omega arith)
vbr_of-count_of false true count below = lt-leb 128 (128 * 0 + 64 * 1 + count) (omega arith)
vbr_of-count_of false false count below = lt-leb 128 (128 * 0 + 64 * 0 + count) (omega arith)

pub padded_of-count_of : (vbr padded : Bool) (count : ℕ) → count < 64
    → padded_of (count_of vbr padded count) ≡ padded
padded_of-count_of true true count below =
    eq-eqb ((128 * 1 + 64 * 1 + count) / 64 % 2) 1 (omega arith)
padded_of-count_of true false count below =
    ne_eqb ((128 * 1 + 64 * 0 + count) / 64 % 2) 1 (λ e. omega arith)
padded_of-count_of false true count below =
    eq-eqb ((128 * 0 + 64 * 1 + count) / 64 % 2) 1 (omega arith)
padded_of-count_of false false count below =
    ne_eqb ((128 * 0 + 64 * 0 + count) / 64 % 2) 1 (λ e. omega arith)

pub frames_of-count_of : (vbr padded : Bool) (count : ℕ) → count < 64
    → frames_of (count_of vbr padded count) ≡ count
frames_of-count_of true true count below = omega arith
frames_of-count_of true false count below = omega arith
frames_of-count_of false true count below = omega arith
frames_of-count_of false false count below = omega arith
