-- What parameters say together, and one parameter more.
use Rattle.std.proofs.Common.{◌≡◌, ◌≢◌, ◌<◌, ℕ, Bool, true, false, ◌==◌, ◌||◌, List, [], ◌∷◌, ◌++◌, find, is_some, Option, Some, None, option_map, append-nil, refl, ap, ◌∙◌, arith}
use Rattle.std.specs.Option.{option_or}
use Rattle.std.proofs.lemmas.Bool.{eq-eqb, ne_eqb, eqb-false, false_from_ne_true}
use Rattle.std.proofs.lemmas.List.Folds.{find-append}
use Rattle.std.proofs.lemmas.List.Elements.{filter-append}
use Rattle.text_numbers.specs.Number.{value_of}
use Rattle.opus_sdp.specs.Table.{row_of, same_name, is_named}
use Rattle.opus_sdp.specs.Params.{number, others}
use Rattle.opus_sdp.specs.declared.param.Param.{Param}
use Rattle.opus_sdp.proofs.TableLemmas.{row_of-same, same_name-row}

-- a known name is there where its number is

named-at : (name : List ℕ) (row : ℕ) (p : Param) (params : List Param) (b : Bool) → (row_of p.name == row) ≡ b → same_name p.name name ≡ b
    → is_named name params ≡ is_some (number row params) → is_named name (p ∷ params) ≡ is_some (number row (p ∷ params))
named-at name row p params true at same rest = rw (at, same) refl
named-at name row p params false at same rest = rw (at, same) rest

pub is_named-known : (name : List ℕ) (row : ℕ) → row < 8 → row_of name ≡ row → (params : List Param)
    → is_named name params ≡ is_some (number row params)
is_named-known name row known at [] = refl
is_named-known name row known at (p ∷ params) =
    let same : same_name p.name name ≡ (row_of p.name == row) =
    same_name-row p.name name (rw at known) ∙ ap (λ i. row_of p.name == i) at in
    named-at name row p params (row_of p.name == row) refl same (is_named-known name row known at params)

-- another name is among the others, if it is there

other-at : (name : List ℕ) (p : Param) (params : List Param) (b : Bool) → (row_of p.name == 8) ≡ b
    → (b ≡ false → same_name p.name name ≡ false)
    → is_named name params ≡ is_named name (others params) → is_named name (p ∷ params) ≡ is_named name (others (p ∷ params))
other-at name p params true at apart rest = rw at (ap (λ b. same_name p.name name || b) rest)
other-at name p params false at apart rest = rw (at, apart refl) rest

pub is_named-other : (name : List ℕ) → row_of name ≡ 8 → (params : List Param)
    → is_named name params ≡ is_named name (others params)
is_named-other name at [] = refl
is_named-other name at (p ∷ params) =
    other-at name p params (row_of p.name == 8) refl
    (λ other. false_from_ne_true (same_name p.name name)
    (λ same. eqb-false (row_of p.name) 8 other (row_of-same p.name name same ∙ at)))
    (is_named-other name at params)

-- one parameter more

or_none : (o : Option Param) → option_or o None ≡ o
or_none None = refl
or_none (Some p) = refl

or_first : (o : Option Param) (p : Param) → is_some (option_map (λ (q : Param). value_of q.value) o) ≡ false
    → option_map (λ (q : Param). value_of q.value) (option_or o (Some p)) ≡ Some (value_of p.value)
or_first None p none = refl
or_first (Some q) p none = cc

pub number-other : (row : ℕ) (params : List Param) (p : Param) → row_of p.name ≢ row
    → number row (params ++ p ∷ []) ≡ number row params
number-other row params p apart =
    let last : find (λ q. row_of q.name == row) (p ∷ []) ≡ None = rw (ne_eqb (row_of p.name) row apart) refl in
    ap (option_map (λ (q : Param). value_of q.value))
    (find-append (λ (q : Param). row_of q.name == row) params (p ∷ [])
    ∙ ap (option_or (find (λ q. row_of q.name == row) params)) last
    ∙ or_none (find (λ q. row_of q.name == row) params))

pub number-first : (row : ℕ) (params : List Param) (p : Param) → row_of p.name ≡ row → is_some (number row params) ≡ false
    → number row (params ++ p ∷ []) ≡ Some (value_of p.value)
number-first row params p at none =
    let last : find (λ q. row_of q.name == row) (p ∷ []) ≡ Some p = rw (eq-eqb (row_of p.name) row at) refl in
    ap (option_map (λ (q : Param). value_of q.value))
    (find-append (λ (q : Param). row_of q.name == row) params (p ∷ [])
    ∙ ap (option_or (find (λ q. row_of q.name == row) params)) last)
    ∙ or_first (find (λ q. row_of q.name == row) params) p none

pub others-known : (params : List Param) (p : Param) → row_of p.name < 8 → others (params ++ p ∷ []) ≡ others params
others-known params p known =
    let last : others (p ∷ []) ≡ [] = rw (ne_eqb (row_of p.name) 8 (λ e. omega arith)) refl in
    filter-append (λ (q : Param). row_of q.name == 8) params (p ∷ [])
    ∙ ap (λ l. others params ++ l) last ∙ append-nil (others params)

pub others-other : (params : List Param) (p : Param) → row_of p.name ≡ 8 → others (params ++ p ∷ []) ≡ others params ++ p ∷ []
others-other params p at =
    let last : others (p ∷ []) ≡ p ∷ [] = rw (eq-eqb (row_of p.name) 8 at) refl in
    filter-append (λ (q : Param). row_of q.name == 8) params (p ∷ []) ∙ ap (λ l. others params ++ l) last
