-- Frames that are walked past, one after another.
use Rattle.std.proofs.Common.{◌≡◌, ℕ, zero, suc, ◌+◌, ◌<◌, Option, Some, None, List, [], ◌∷◌, length, drop, sym, ap, ◌∙◌, arith, length-drop}
use Rattle.std.specs.List.{slice_get}
use Rattle.std.specs.Option.{MatchOption}
use Rattle.std.proofs.lemmas.List.{drop-drop}

-- the first that is left, and the others; or nothing is left
abbrev pub Gives : {A : Type 0} → (A → List ℕ) → List (List ℕ) → Option A → List (List ℕ) → Type 0
Gives view before given after =
    MatchOption given ((before ≡ []) × (after ≡ [])) (λ x. before ≡ view x ∷ after)

pub walk : {A : Type 0} (view : A → List ℕ) (frames before after : List (List ℕ)) (k : ℕ) (given : Option A)
    → before ≡ drop k frames → Gives view before given after → after ≡ drop (k + 1) frames
walk view frames before after k (Some x) at gives =
    ap (λ l. drop 1 l) (sym gives ∙ at) ∙ drop-drop 1 k frames
walk view frames before after k None at gives =
    gives.1 ∙ ap (λ l. drop 1 l) (sym gives.0 ∙ at) ∙ drop-drop 1 k frames

first_left : (frames : List (List ℕ)) (i : ℕ) (f : List ℕ) (rest : List (List ℕ)) → drop i frames ≡ f ∷ rest
    → slice_get frames i ≡ Some f
first_left [] zero f rest e = cc
first_left [] (suc i) f rest e = cc
first_left (g ∷ fs) zero f rest e = cc
first_left (g ∷ fs) (suc i) f rest e = first_left fs i f rest e

pub is_at : (frames before after : List (List ℕ)) (i k : ℕ) (f : List ℕ) → before ≡ drop k frames → k ≡ i
    → before ≡ f ∷ after → slice_get frames i ≡ Some f
is_at frames before after i k f at same gives =
    first_left frames i f after (ap (λ n. drop n frames) (sym same) ∙ sym at ∙ gives)

pub some_left : (frames before : List (List ℕ)) (i k : ℕ) → before ≡ drop k frames → k ≡ i
    → i < length frames → before ≡ [] → ⊥
some_left frames before i k at same within none =
    let size = length-drop k frames in
    let left = ap length (sym at ∙ none) in
    omega arith
