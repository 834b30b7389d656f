-- Parameters that are printed one after another.
use Rattle.std.proofs.Common.{◌≡◌, ◌<◌, ◌≤◌, ℕ, zero, suc, ◌+◌, List, [], ◌∷◌, ◌++◌, length, length-append, get_or, take, take_all, Vec, Global, Option, None, Some, append_assoc, append-nil, refl, sym, ap, ◌∙◌, arith}
use Rattle.std.specs.List.{filter_map, zip}
use Rattle.std.specs.Prelude.{vec_capacity}
use Rattle.std.specs.Fmt.{decimal}
use Rattle.std.proofs.lemmas.List.Elements.{filter_map-append}
use Rattle.opus_sdp.specs.Table.{Row, row, table, row_at}
use Rattle.opus_sdp.specs.Printed.{param_text, params_after, row_param}
use Rattle.opus_sdp.specs.Writing.{separator_behind}
use Rattle.opus_sdp.specs.declared.param.Param.{Param}
use Rattle.opus_sdp.proofs.TableLemmas.{length-table}

-- behind a parameter the next one stands behind `;`

behind_one : (params : List Param) → separator_behind 59 params ≡ 59
behind_one [] = refl
behind_one (p ∷ params) = refl

pub params_after-append : (separator : ℕ) (params more : List Param)
    → params_after separator (params ++ more) ≡ params_after separator params ++ params_after (separator_behind separator params) more
params_after-append separator [] more = refl
params_after-append separator (p ∷ params) more =
    ap (λ l. separator ∷ (param_text p ++ l)) (params_after-append 59 params more
    ∙ ap (λ b. params_after 59 params ++ params_after b more) (behind_one params))
    ∙ ap (λ l. separator ∷ l) (sym (append_assoc (param_text p) (params_after 59 params) (params_after 59 more)))

pub separator-append : (separator : ℕ) (params : List Param) (p : Param) → separator_behind separator (params ++ p ∷ []) ≡ 59
separator-append separator [] p = refl
separator-append separator (q ∷ params) p = refl

-- one parameter more is printed
pub printed-more : (old out new : List ℕ) (separator next : ℕ) (params : List Param) (p : Param)
    → out ≡ old ++ params_after separator params → next ≡ separator_behind separator params
    → new ≡ out ++ next ∷ param_text p → new ≡ old ++ params_after separator (params ++ p ∷ [])
printed-more old out new separator next params p before is more =
    let last : next ∷ param_text p ≡ params_after (separator_behind separator params) (p ∷ []) =
    ap (λ b. b ∷ param_text p) is ∙ ap (λ l. separator_behind separator params ∷ l) (sym (append-nil (param_text p))) in
    more ∙ ap (λ l. l ++ next ∷ param_text p) before ∙ append_assoc old (params_after separator params) (next ∷ param_text p)
    ∙ ap (λ l. old ++ l) (ap (λ l. params_after separator params ++ l) last ∙ sym (params_after-append separator params (p ∷ [])))

-- the rows in front of one, and this one

zip-more : (rows : List Row) (numbers : List (Option ℕ)) (i : ℕ) (d : Row) → i < length rows → i < length numbers
    → take (i + 1) (zip rows numbers) ≡ take i (zip rows numbers) ++ (get_or rows i d, get_or numbers i None) ∷ []
zip-more [] numbers i d first second = absurd (omega arith)
zip-more (r ∷ rows) [] i d first second = absurd (omega arith)
zip-more (r ∷ rows) (n ∷ numbers) zero d first second = refl
zip-more (r ∷ rows) (n ∷ numbers) (suc i) d first second =
    let next : suc i + 1 ≡ suc (i + 1) = omega arith in
    rw next (ap (λ l. (r, n) ∷ l) (zip-more rows numbers i d (omega arith) (omega arith)))

zip-short : (rows : List Row) (numbers : List (Option ℕ)) → length (zip rows numbers) ≤ length rows
zip-short [] numbers = omega arith
zip-short (r ∷ rows) [] = omega arith
zip-short (r ∷ rows) (n ∷ numbers) = let rest = zip-short rows numbers in omega arith

-- the known parameters in the rows in front of one
abbrev pub rows_before : ℕ → List (Option ℕ) → List Param
rows_before i numbers = filter_map row_param (take i (zip table numbers))

rows-more : (i : ℕ) (numbers : List (Option ℕ)) → i < 8 → i < length numbers
    → rows_before (i + 1) numbers ≡ rows_before i numbers ++ filter_map row_param ((row_at i, get_or numbers i None) ∷ [])
rows-more i numbers within known =
    let size = length-table in
    ap (filter_map row_param) (zip-more table numbers i (row [] 0 0) (omega arith) known)
    ∙ filter_map-append row_param (take i (zip table numbers)) ((row_at i, get_or numbers i None) ∷ [])

pub rows-none : (i : ℕ) (numbers : List (Option ℕ)) → i < 8 → i < length numbers → get_or numbers i None ≡ None
    → rows_before (i + 1) numbers ≡ rows_before i numbers
rows-none i numbers within known none =
    rows-more i numbers within known
    ∙ ap (λ o. rows_before i numbers ++ filter_map row_param ((row_at i, o) ∷ [])) none ∙ append-nil (rows_before i numbers)

abbrev pub row_text : ℕ → ℕ → Param
row_text i n = record { name = (row_at i).name; value = decimal n }

pub rows-some : (i : ℕ) (numbers : List (Option ℕ)) (n : ℕ) → i < 8 → i < length numbers → get_or numbers i None ≡ Some n
    → rows_before (i + 1) numbers ≡ rows_before i numbers ++ row_text i n ∷ []
rows-some i numbers n within known some =
    rows-more i numbers within known
    ∙ ap (λ o. rows_before i numbers ++ filter_map row_param ((row_at i, o) ∷ [])) some

pub rows-all : (numbers : List (Option ℕ)) → rows_before 8 numbers ≡ filter_map row_param (zip table numbers)
rows-all numbers =
    let size = length-table in
    let short = zip-short table numbers in
    ap (filter_map row_param) (take_all 8 (zip table numbers) (omega arith))

-- there is room for this many bytes more
abbrev pub Room : Vec ℕ Global → ℕ → Type 0
Room out more = length out.items + more ≤ vec_capacity out

-- behind an appended part there is room for the rest
pub room-behind : (old new : Vec ℕ Global) (part : List ℕ) (rest : ℕ) → new.items ≡ old.items ++ part → vec_capacity old ≤ vec_capacity new
    → Room old (length part + rest) → Room new rest
room-behind old new part rest is grown room =
    omega (arith, room, ap length is, length-append old.items part, grown)

-- what is appended in three parts
pub three-parts : (old a b c d first second third : List ℕ) → first ≡ old ++ a → second ≡ first ++ b → third ≡ second ++ (c ++ d)
    → third ≡ old ++ ((a ++ (b ++ c)) ++ d)
three-parts old a b c d first second third is then last =
    last ∙ ap (λ l. l ++ (c ++ d)) then ∙ ap (λ l. (l ++ b) ++ (c ++ d)) is ∙ simp append_assoc

-- the others behind the known ones
pub others-printed : (front middle end : List ℕ) (known others shown : List Param) (next : ℕ)
    → middle ≡ front ++ params_after 32 known → next ≡ separator_behind 32 known → shown ≡ others
    → end ≡ middle ++ params_after next shown → end ≡ front ++ params_after 32 (known ++ others)
others-printed front middle end known others shown next first is same last =
    last ∙ ap (λ ps. middle ++ params_after next ps) same ∙ ap (λ b. middle ++ params_after b others) is
    ∙ ap (λ l. l ++ params_after (separator_behind 32 known) others) first
    ∙ append_assoc front (params_after 32 known) (params_after (separator_behind 32 known) others)
    ∙ ap (λ l. front ++ l) (sym (params_after-append 32 known others))
