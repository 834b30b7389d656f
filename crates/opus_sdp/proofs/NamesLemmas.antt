-- Names in an ordered set.
use Rattle.std.proofs.Common.{◌≡◌, ℕ, Bool, true, false, ◌||◌, List, [], ◌∷◌, Ok, Err, Result, IfOk, OnOk, MatchResult, IsErrAnd, refl, sym, ap, subst, ◌∙◌}
use Rattle.std.specs.List.{list_any}
use Rattle.std.specs.Ordering.{match_ordering, nat_cmp, is_eq}
use Rattle.std.specs.Cmp.Lexicographic.{slice_cmp}
use Rattle.std.specs.BTreeSet.{insert_key}
use Rattle.std.specs.Str.{bytes_eq}
use Rattle.std.specs.declared.cmp.Ordering.{Ordering}
use Rattle.std.specs.declared.cmp.Ordering.TheVariants.{Less, Equal, Greater}
use Rattle.std.proofs.lemmas.Cmp.{nat_list_eq_equiv}
use Rattle.std.proofs.lemmas.Map.Text.{is_eq-slice_cmp}

pub list_any_same : {K : Type 0} (f g : K → Bool) → ((x : K) → f x ≡ g x) → (ks : List K) → list_any f ks ≡ list_any g ks
list_any_same f g same [] = refl
list_any_same f g same (x ∷ ks) = rw (same x, list_any_same f g same ks) refl

or_swapped : (a b : Bool) → (a || b) ≡ (b || a)
or_swapped true true = refl
or_swapped true false = refl
or_swapped false true = refl
or_swapped false false = refl

or_again : (a b rest : Bool) → a ≡ b → (a || rest) ≡ ((a || rest) || b)
or_again true b rest e = refl
or_again false true rest e = cc
or_again false false true e = refl
or_again false false false e = refl

or_regrouped : (a b c : Bool) → (a || (b || c)) ≡ ((a || b) || c)
or_regrouped true b c = refl
or_regrouped false b c = refl

-- a key that is put in is found, and all others as before
at_order : {K : Type 0} (g : K → Bool) (k x : K) (ks more : List K) (o : Ordering) → (o ≡ Equal → g x ≡ g k)
    → list_any g more ≡ (list_any g ks || g k)
    → list_any g (match_ordering o (k ∷ x ∷ ks) (x ∷ ks) (x ∷ more)) ≡ (list_any g (x ∷ ks) || g k)
at_order g k x ks more Less tied rest = or_swapped (g k) (g x || list_any g ks)
at_order g k x ks more Equal tied rest = or_again (g x) (g k) (list_any g ks) (tied refl)
at_order g k x ks more Greater tied rest =
    ap (λ b. g x || b) rest ∙ or_regrouped (g x) (list_any g ks) (g k)

pub list_any-insert_key : {K : Type 0} (cmp : K → K → Ordering) (g : K → Bool) (k : K)
    → ((x : K) → cmp k x ≡ Equal → g x ≡ g k) → (ks : List K)
    → list_any g (insert_key cmp ks k) ≡ (list_any g ks || g k)
list_any-insert_key cmp g k tied [] = or_swapped (g k) false
list_any-insert_key cmp g k tied (x ∷ ks) =
    at_order g k x ks (insert_key cmp ks k) (cmp k x) (tied x) (list_any-insert_key cmp g k tied ks)

-- equal texts
pub bytes_eq_swapped : (a b : List ℕ) → bytes_eq a b ≡ bytes_eq b a
bytes_eq_swapped = nat_list_eq_equiv.symm

pub tied_texts : (a b c : List ℕ) → slice_cmp nat_cmp a b ≡ Equal → bytes_eq b c ≡ bytes_eq a c
tied_texts a b c tie =
    sym (nat_list_eq_equiv.congr a b c (sym (is_eq-slice_cmp a b) ∙ ap is_eq tie))

pub found_text : (a b : List ℕ) → is_eq (slice_cmp nat_cmp a b) ≡ bytes_eq b a
found_text a b = is_eq-slice_cmp a b ∙ bytes_eq_swapped a b

-- another error
pub IfOk-map_err : {E F : Type 0} (Q : E → F → Type 0) (P : Bool → Type 0) (given : Result Bool E) (result : Result Bool F)
    → MatchResult given (λ x. result ≡ Ok x) (λ e. IsErrAnd result (Q e)) → IfOk given P → IfOk result P
IfOk-map_err Q P (Ok x) result same holds = subst (λ r. IfOk r P) (sym same) holds
IfOk-map_err Q P (Err e) (Ok y) same holds = absurd same
IfOk-map_err Q P (Err e) (Err f) same holds = tt

pub OnOk-map_err : {E F : Type 0} (Q : E → F → Type 0) (P R : Type 0) (given : Result Bool E) (result : Result Bool F)
    → MatchResult given (λ x. result ≡ Ok x) (λ e. IsErrAnd result (Q e)) → (P → R) → OnOk given P → OnOk result R
OnOk-map_err Q P R (Ok x) result same follows holds = subst (λ r. OnOk r R) (sym same) (follows holds)
OnOk-map_err Q P R (Err e) (Ok y) same follows holds = absurd same
OnOk-map_err Q P R (Err e) (Err f) same follows holds = tt
