-- The rows of the table, and names in any case of letters.
use Rattle.std.proofs.Common.{◌≡◌, ◌<◌, ◌≤◌, ◌↔◌, ⊎_elim, ℕ, Bool, true, false, ◌==◌, List, [], length, IsTrue, is_some, refl, sym, ap, subst, ◌∙◌, arith}
use Rattle.std.specs.Cmp.{IsEquivalence}
use Rattle.std.specs.List.{position_or_len}
use Rattle.std.specs.Str.{bytes_eq}
use Rattle.std.proofs.lemmas.List.Sums.{position_or_len_is, passes_at_first}
use Rattle.std.proofs.lemmas.Slice.Eq.{bytes_eq-Decides}
use Rattle.std.proofs.lemmas.Cmp.{on_equiv, nat_list_eq_equiv}
use Rattle.std.proofs.lemmas.Option.{slice_get-get_or, slice_get_past}
use Rattle.std.proofs.lemmas.Bool.{false_from_ne_true, cases_Bool, eq-eqb, ne_eqb, both_ways}
use Rattle.text_numbers.specs.Number.{number_within}
use Rattle.opus_sdp.specs.Table.{row, table, row_at, row_of, lowered, same_name, is_allowed}

pub length-table : length table ≡ 8
unfolding table
length-table = refl

-- the first row with this name, or the end
pub row_of_is : (name : List ℕ) (i : ℕ) → i ≤ 8 → ((k : ℕ) → k < i → same_name (row_at k).name name ≡ false)
    → (i < 8 → same_name (row_at i).name name ≡ true) → row_of name ≡ i
row_of_is name i within before at =
    let size = length-table in
    position_or_len_is (λ r. same_name r.name name) table i (row [] 0 0) (omega arith) before
    (λ less. at (omega arith))

-- what std's test says
pub same_name_tested : (a b : List ℕ) (r : Bool) → (IsTrue r ↔ (lowered a ≡ lowered b)) → r ≡ same_name b a
same_name_tested a b true test = sym ((bytes_eq-Decides (lowered b) (lowered a)).1 (sym (test.0 refl)))
same_name_tested a b false test =
    sym (false_from_ne_true (same_name b a)
    (λ yes. let wrong = test.1 (sym ((bytes_eq-Decides (lowered b) (lowered a)).0 yes)) in cc))

-- names that are the same are in the same row

pub same_name_equiv : IsEquivalence same_name
same_name_equiv = on_equiv lowered nat_list_eq_equiv

pub row_of-same : (a b : List ℕ) → same_name a b ≡ true → row_of a ≡ row_of b
row_of-same a b same =
    ap (λ l. position_or_len (λ r. bytes_eq (lowered r.name) l) table) ((bytes_eq-Decides (lowered a) (lowered b)).0 same)

pub row_of-found : (name : List ℕ) → row_of name < 8 → same_name (row_at (row_of name)).name name ≡ true
row_of-found name known =
    let size = length-table in
    passes_at_first (λ r. same_name r.name name) table (row [] 0 0) (omega arith)

same_row : (a b : List ℕ) → row_of b < 8 → row_of a ≡ row_of b → same_name a b ≡ true
same_row a b known rows =
    let at : same_name (row_at (row_of b)).name a ≡ true =
    subst (λ i. same_name (row_at i).name a ≡ true) rows (row_of-found a (rw rows known)) in
    sym (same_name_equiv.congr (row_at (row_of b)).name a b at) ∙ row_of-found b known

-- two names, one of them known, are the same where their rows are
pub same_name-row : (a b : List ℕ) → row_of b < 8 → same_name a b ≡ (row_of a == row_of b)
same_name-row a b known =
    ⊎_elim
    (λ same. same ∙ sym (eq-eqb (row_of a) (row_of b) (row_of-same a b same)))
    (λ other. other ∙ sym (ne_eqb (row_of a) (row_of b) (λ rows. both_ways (same_name a b) other (same_row a b known rows))))
    (cases_Bool (same_name a b))

-- the values that a row allows, and a name without a row

pub is_allowed-row : (name value : List ℕ) (i : ℕ) → i < 8 → row_of name ≡ i
    → is_allowed name value ≡ is_some (number_within (row_at i).least (row_at i).most value)
is_allowed-row name value i known at =
    let size = length-table in
    let found = slice_get-get_or table i (row [] 0 0) (omega arith) in
    rw (at, found) refl

pub is_allowed-other : (name value : List ℕ) → row_of name ≡ 8 → is_allowed name value ≡ true
is_allowed-other name value at =
    let size = length-table in
    let none = slice_get_past table 8 (omega arith) in
    rw (at, none) refl
