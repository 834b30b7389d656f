-- What is printed of a value is a line that says it.
use Rattle.std.proofs.Common.{◌≡◌, ◌<◌, ◌≤◌, ◌^◌, ℕ, ◌+◌, Bool, true, false, nat_lt, List, [], ◌∷◌, ◌++◌, Option, None, Some, is_some, append_assoc, append-nil, refl, sym, ap, subst, ◌∙◌, arith}
use Rattle.std.specs.List.{list_all}
use Rattle.std.specs.Fmt.{decimal}
use Rattle.std.proofs.lemmas.Bool.{and_parts, and_from, or_from, lt-ltb, ltb-true, ne_eqb, false_from_ne_true}
use Rattle.std.proofs.lemmas.List.Folds.{list_any-append}
use Rattle.text_numbers.specs.Number.{number_within}
use Rattle.opus_sdp.specs.Table.{Row, table, row_at, row_of, same_name, is_named, is_allowed}
use Rattle.opus_sdp.specs.Params.{number}
use Rattle.opus_sdp.specs.Grammar.{AreAllowed}
use Rattle.opus_sdp.specs.Printed.{numbers_of, printed_params, AreOthers, IsFmtp}
use Rattle.opus_sdp.specs.declared.param.Param.{Param}
use Rattle.opus_sdp.specs.declared.fmtp.Fmtp.{Fmtp}
use Rattle.text_numbers.proofs.NumberLemmas.{number_within-decimal}
use Rattle.opus_sdp.proofs.TableLemmas.{row_of-same, is_allowed-row, is_allowed-other}
use Rattle.opus_sdp.proofs.ParamsLemmas.{is_named-known}
use Rattle.opus_sdp.proofs.RowsLemmas.{AreRows, FitRows, row_params, printed, table-rows, value-fits}

-- all of them are in rows in front of this one

abbrev are_below : ℕ → List Param → Bool
are_below i params = list_all (λ p. nat_lt (row_of p.name) i) params

none-below : (i : ℕ) (params : List Param) → are_below i params ≡ true → number i params ≡ None
none-below i [] are = refl
none-below i (p ∷ params) are =
    let (first, rest) = and_parts (nat_lt (row_of p.name) i) (are_below i params) are in
    let below = ltb-true (row_of p.name) i first in
    rw (ne_eqb (row_of p.name) i (λ same. omega arith)) (none-below i params rest)

below-more : (i : ℕ) (params : List Param) (p : Param) → are_below i params ≡ true → row_of p.name ≡ i
    → are_below (i + 1) (params ++ p ∷ []) ≡ true
below-more i [] p are at = and_from _ _ (lt-ltb (row_of p.name) (i + 1) (omega arith)) refl
below-more i (q ∷ params) p are at =
    let (first, rest) = and_parts (nat_lt (row_of q.name) i) (are_below i params) are in
    let below = ltb-true (row_of q.name) i first in
    and_from _ _ (lt-ltb (row_of q.name) (i + 1) (omega arith)) (below-more i params p rest at)

-- the known ones are allowed

row-allowed : (i : ℕ) (r : Row) (n : ℕ) → row_of r.name ≡ i → row_at i ≡ r → i < 8 → r.most < 2 ^ 64 → r.least ≤ n → n ≤ r.most
    → is_allowed r.name (decimal n) ≡ true
row-allowed i r n at is within small low high =
    is_allowed-row r.name (decimal n) i within at
    ∙ subst (λ q. is_some (number_within q.least q.most (decimal n)) ≡ true) (sym is)
    (ap is_some (number_within-decimal r.least r.most n low high (omega arith)))

below-at : (i : ℕ) (params : List Param) → i ≡ 8 → are_below i params ≡ true → are_below 8 params ≡ true
below-at i params at below = subst (λ j. are_below j params ≡ true) at below

below-skip : (i : ℕ) (params : List Param) → are_below i params ≡ true → are_below (i + 1) params ≡ true
below-skip i [] are = refl
below-skip i (q ∷ params) are =
    let (first, rest) = and_parts (nat_lt (row_of q.name) i) (are_below i params) are in
    let below = ltb-true (row_of q.name) i first in
    and_from _ _ (lt-ltb (row_of q.name) (i + 1) (omega arith)) (below-skip i params rest)

rows-allowed : (i : ℕ) (rows : List Row) (numbers : List (Option ℕ)) (more before : List Param) → AreRows i rows → FitRows rows numbers
    → are_below i before ≡ true → ((all : List Param) → are_below 8 all ≡ true → AreAllowed all more)
    → AreAllowed before (row_params rows numbers ++ more)
rows-allowed i [] [] more before are fit below rest = rest before (below-at i before are below)
rows-allowed i [] (o ∷ numbers) more before are fit below rest = absurd fit
rows-allowed i (r ∷ rows) [] more before are fit below rest = absurd fit
rows-allowed i (r ∷ rows) (None ∷ numbers) more before are fit below rest =
    rows-allowed (i + 1) rows numbers more before are.5 fit.1 (below-skip i before below) rest
rows-allowed i (r ∷ rows) (Some n ∷ numbers) more before are fit below rest = (
  is_named-known r.name i are.2 are.0 before ∙ ap is_some (none-below i before below),
  row-allowed i r n are.0 are.1 are.2 are.4 fit.0.0 fit.0.1,
  rows-allowed (i + 1) rows numbers more (before ++ printed r n ∷ []) are.5 fit.1 (below-more i before (printed r n) below are.0) rest,
)

-- and so are the others behind them

other-new : (name : List ℕ) (params : List Param) → row_of name ≡ 8 → are_below 8 params ≡ true → is_named name params ≡ false
other-new name [] at are = refl
other-new name (p ∷ params) at are =
    let (first, rest) = and_parts (nat_lt (row_of p.name) 8) (are_below 8 params) are in
    let below = ltb-true (row_of p.name) 8 first in
    or_from (same_name p.name name) (is_named name params)
    (false_from_ne_true (same_name p.name name) (λ same. let rows = row_of-same p.name name same in omega arith))
    (other-new name params at rest)

others-allowed : (known before params : List Param) → are_below 8 known ≡ true → AreOthers before params
    → AreAllowed (known ++ before) params
others-allowed known before [] below are = tt
others-allowed known before (p ∷ params) below are = (
  list_any-append (λ (q : Param). same_name q.name p.name) known before
      ∙ or_from (is_named p.name known) (is_named p.name before) (other-new p.name known are.2 below) are.3,
  is_allowed-other p.name p.value are.2,
  subst (λ l. AreAllowed l params) (sym (append_assoc known before (p ∷ [])))
      (others-allowed known (before ++ p ∷ []) params below are.4),
)

pub printed-allowed : (m : Fmtp) → IsFmtp m → AreAllowed [] (printed_params m)
printed-allowed m is =
    rows-allowed 0 table (numbers_of m) m.others [] table-rows (value-fits m is) refl
    (λ all below. subst (λ l. AreAllowed l m.others) (append-nil all) (others-allowed all [] m.others below is.others))
