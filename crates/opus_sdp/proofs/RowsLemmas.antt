-- Known parameters in the order of the table.
use Rattle.std.proofs.Common.{◌≡◌, ◌≢◌, ◌<◌, ◌≤◌, ◌^◌, ℕ, zero, suc, ◌+◌, Bool, true, false, nat_le, List, [], ◌∷◌, ◌++◌, length, get_or, Option, None, Some, IfSome, refl, ap, ◌∙◌, lit<, arith}
use Rattle.std.specs.List.{filter_map, zip, list_all}
use Rattle.std.specs.Fmt.{decimal}
use Rattle.std.proofs.lemmas.Bool.{and_parts, and_from, eq-eqb, ne_eqb, le-leb, leb-true}
use Rattle.text_numbers.specs.Number.{value_of}
use Rattle.opus_sdp.specs.Table.{Row, table, row_at, row_of}
use Rattle.opus_sdp.specs.Params.{number, others}
use Rattle.opus_sdp.specs.Grammar.{is_name}
use Rattle.opus_sdp.specs.Printed.{flag_number, row_param, numbers_of, IsFmtp}
use Rattle.opus_sdp.specs.declared.param.Param.{Param}
use Rattle.opus_sdp.specs.declared.fmtp.Fmtp.{Fmtp}
use Rattle.text_numbers.proofs.NumberLemmas.{value_of-decimal}

-- the rows from an index on

abbrev pub AreRows : ℕ → List Row → Type 0
AreRows i [] = i ≡ 8
AreRows i (r ∷ rows) =
    (row_of r.name ≡ i) × (row_at i ≡ r) × (i < 8) × (is_name r.name ≡ true) × (r.most < 2 ^ 64) × AreRows (i + 1) rows

pub table-rows : AreRows 0 table
unfolding table
table-rows = (refl, refl, lit< tt, refl, lit< tt, (refl, refl, lit< tt, refl, lit< tt, (refl, refl, lit< tt, refl, lit< tt, (refl, refl, lit< tt, refl, lit< tt, (refl, refl, lit< tt, refl, lit< tt, (refl, refl, lit< tt, refl, lit< tt, (refl, refl, lit< tt, refl, lit< tt, (refl, refl, lit< tt, refl, lit< tt, refl))))))))

-- numbers that they allow
abbrev pub FitRows : List Row → List (Option ℕ) → Type 0
FitRows [] [] = Unit {0}
FitRows [] (n ∷ numbers) = ⊥
FitRows (r ∷ rows) [] = ⊥
FitRows (r ∷ rows) (n ∷ numbers) = IfSome n (λ v. (r.least ≤ v) × (v ≤ r.most)) × FitRows rows numbers

flag-fits : (flag : Option Bool) → IfSome (flag_number flag) (λ v. (0 ≤ v) × (v ≤ 1))
flag-fits None = tt
flag-fits (Some true) = (omega arith, omega arith)
flag-fits (Some false) = (omega arith, omega arith)

pub value-fits : (m : Fmtp) → IsFmtp m → FitRows table (numbers_of m)
unfolding table
value-fits m is = (
  is.max_playback_rate,
  (
    is.max_capture_rate,
    (
      is.max_average_bitrate,
      (flag-fits m.stereo, (flag-fits m.sprop_stereo, (flag-fits m.cbr, (flag-fits m.in_band_fec, (flag-fits m.dtx, tt))))),
    ),
  ),
)

-- the parameters of these rows, and others behind them

abbrev pub row_params : List Row → List (Option ℕ) → List Param
row_params rows numbers = filter_map row_param (zip rows numbers)

abbrev pub printed : Row → ℕ → Param
printed r n = record { name = r.name; value = decimal n }

-- all of them are in rows from this one on
abbrev pub are_from : ℕ → List Param → Bool
are_from i params = list_all (λ p. nat_le i (row_of p.name)) params

absent : (row i : ℕ) (params : List Param) → row < i → are_from i params ≡ true → number row params ≡ None
absent row i [] below are = refl
absent row i (p ∷ params) below are =
    let (first, rest) = and_parts (nat_le i (row_of p.name)) (are_from i params) are in
    let apart : row_of p.name ≢ row = λ here. let from = leb-true i (row_of p.name) first in omega arith in
    rw (ne_eqb (row_of p.name) row apart) (absent row i params below rest)

from-less : (i j : ℕ) (params : List Param) → i ≤ j → are_from j params ≡ true → are_from i params ≡ true
from-less i j [] less are = refl
from-less i j (p ∷ params) less are =
    let (first, rest) = and_parts (nat_le j (row_of p.name)) (are_from j params) are in
    let from = leb-true j (row_of p.name) first in
    and_from _ _ (le-leb i (row_of p.name) (omega arith)) (from-less i j params less rest)

pub rows-from : (i : ℕ) (rows : List Row) (numbers : List (Option ℕ)) (more : List Param) → AreRows i rows → are_from 8 more ≡ true
    → are_from i (row_params rows numbers ++ more) ≡ true
rows-from i [] numbers more are from = from-less i 8 more (omega arith) from
rows-from i (r ∷ rows) [] more are from = let below = are.2 in from-less i 8 more (omega arith) from
rows-from i (r ∷ rows) (None ∷ numbers) more are from =
    from-less i (i + 1) (row_params rows numbers ++ more) (omega arith) (rows-from (i + 1) rows numbers more are.5 from)
rows-from i (r ∷ rows) (Some n ∷ numbers) more are from =
    let here = are.0 in
    and_from _ _ (le-leb i (row_of r.name) (omega arith))
    (from-less i (i + 1) (row_params rows numbers ++ more) (omega arith) (rows-from (i + 1) rows numbers more are.5 from))

-- the numbers are theirs

here : (row : ℕ) (p : Param) (params : List Param) → row_of p.name ≡ row → number row (p ∷ params) ≡ Some (value_of p.value)
here row p params at = rw (eq-eqb (row_of p.name) row at) refl

skipped : (row : ℕ) (p : Param) (params : List Param) → row_of p.name ≢ row → number row (p ∷ params) ≡ number row params
skipped row p params apart = rw (ne_eqb (row_of p.name) row apart) refl

first-number : (i : ℕ) (r : Row) (rows : List Row) (o : Option ℕ) (numbers : List (Option ℕ)) (more : List Param) → AreRows i (r ∷ rows)
    → IfSome o (λ v. (r.least ≤ v) × (v ≤ r.most)) → are_from 8 more ≡ true
    → number i (row_params (r ∷ rows) (o ∷ numbers) ++ more) ≡ o
first-number i r rows None numbers more are fit from =
    absent i (i + 1) (row_params rows numbers ++ more) (omega arith) (rows-from (i + 1) rows numbers more are.5 from)
first-number i r rows (Some n) numbers more are fit from =
    let most = fit.1 in
    let small = are.4 in
    here i (printed r n) (row_params rows numbers ++ more) are.0 ∙ ap Some (value_of-decimal n (omega arith))

next-number : (i row : ℕ) (r : Row) (rows : List Row) (o : Option ℕ) (numbers : List (Option ℕ)) (more : List Param) → AreRows i (r ∷ rows)
    → i < row → number row (row_params (r ∷ rows) (o ∷ numbers) ++ more) ≡ number row (row_params rows numbers ++ more)
next-number i row r rows None numbers more are below = refl
next-number i row r rows (Some n) numbers more are below =
    let at = are.0 in skipped row (printed r n) (row_params rows numbers ++ more) (λ same. omega arith)

pub rows-number : (i : ℕ) (rows : List Row) (numbers : List (Option ℕ)) (more : List Param) (k : ℕ) → AreRows i rows
    → FitRows rows numbers → are_from 8 more ≡ true → k < length numbers
    → number (i + k) (row_params rows numbers ++ more) ≡ get_or numbers k None
rows-number i [] [] more k are fit from within = absurd (omega arith)
rows-number i [] (o ∷ numbers) more k are fit from within = absurd fit
rows-number i (r ∷ rows) [] more k are fit from within = absurd fit
rows-number i (r ∷ rows) (o ∷ numbers) more zero are fit from within =
    let same : i + 0 ≡ i = omega arith in
    ap (λ row. number row (row_params (r ∷ rows) (o ∷ numbers) ++ more)) same ∙ first-number i r rows o numbers more are fit.0 from
rows-number i (r ∷ rows) (o ∷ numbers) more (suc k) are fit from within =
    let next : i + suc k ≡ i + 1 + k = omega arith in
    next-number i (i + suc k) r rows o numbers more are (omega arith)
    ∙ ap (λ row. number row (row_params rows numbers ++ more)) next
    ∙ rows-number (i + 1) rows numbers more k are.5 fit.1 from (omega arith)

-- and the others are those behind them

pub rows-others : (i : ℕ) (rows : List Row) (numbers : List (Option ℕ)) (more : List Param) → AreRows i rows
    → others (row_params rows numbers ++ more) ≡ others more
rows-others i [] numbers more are = refl
rows-others i (r ∷ rows) [] more are = refl
rows-others i (r ∷ rows) (None ∷ numbers) more are = rows-others (i + 1) rows numbers more are.5
rows-others i (r ∷ rows) (Some n ∷ numbers) more are =
    let at = are.0 in
    let below = are.2 in
    rw (ne_eqb (row_of r.name) 8 (λ same. omega arith)) (rows-others (i + 1) rows numbers more are.5)
