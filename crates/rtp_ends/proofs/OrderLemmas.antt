-- Putting arrivals in order.
use Rattle.std.proofs.Common.{◌≡◌, ℕ, ◌<◌, ◌≤◌, nat_eq, true, false, Bool, ◌||◌, List, [], ◌∷◌, ◌++◌, refl, ap, sym, subst, ◌∙◌, ⊎_elim, lt-ltb, le-ltb, arith}
use Rattle.std.specs.List.{AllByRecursion}
use Rattle.std.proofs.Math.Nat.{eq-or-lt_of_le}
use Rattle.std.proofs.lemmas.Bool.{cases_lt, eq-eqb}
use Rattle.rtp_ends.specs.Numbers.{Placed}
use Rattle.rtp_ends.specs.Order.{put, put_all, ordered}
use Rattle.rtp_ends.specs.Slots.{has_place}

-- one arrival more is put last
pub put_all-more : (kept xs : List Placed) (a : Placed) → put_all kept (xs ++ a ∷ []) ≡ put a (put_all kept xs)
put_all-more kept [] a = refl
put_all-more kept (x ∷ xs) a = put_all-more (put x kept) xs a

pub ordered-more : (xs : List Placed) (a : Placed) → ordered (xs ++ a ∷ []) ≡ put a (ordered xs)
ordered-more xs a = put_all-more [] xs a

pub by_order : (a b : ℕ) (P : Type 0) → (a < b → P) → (a ≡ b → P) → (b < a → P) → P
by_order a b P less same more =
    ⊎_elim (λ (l : a < b). less l)
    (λ (g : b ≤ a). ⊎_elim (λ (e : b ≡ a). same (sym e)) (λ (m : b < a). more m) (eq-or-lt_of_le g))
    (cases_lt a b)

pub lt-other : (a b : ℕ) → a < b → nat_eq a b ≡ false
lt-other a b less = grind arith

pub gt-other : (a b : ℕ) → b < a → nat_eq a b ≡ false
gt-other a b more = grind arith

pub put-first : (a b : Placed) (bs : List Placed) → a.place < b.place → put a (b ∷ bs) ≡ a ∷ b ∷ bs
put-first a b bs less = rw (lt-ltb a.place b.place less) refl

pub put-same : (a b : Placed) (bs : List Placed) → a.place ≡ b.place → put a (b ∷ bs) ≡ b ∷ bs
put-same a b bs same = rw (le-ltb a.place b.place (omega arith), eq-eqb a.place b.place same) refl

pub put-later : (a b : Placed) (bs : List Placed) → b.place < a.place → put a (b ∷ bs) ≡ b ∷ put a bs
put-later a b bs more = grind (arith)

-- behind arrivals that are all before it
pub put-behind : (a : Placed) (xs ys : List Placed) → AllByRecursion (λ x. x.place < a.place) xs
    → put a (xs ++ ys) ≡ xs ++ put a ys
put-behind a [] ys less = refl
put-behind a (x ∷ xs) ys less =
    put-later a x (xs ++ ys) less.0 ∙ ap (λ l. x ∷ l) (put-behind a xs ys less.1)

pub has_place-append : (p : ℕ) (xs ys : List Placed)
    → has_place p (xs ++ ys) ≡ (has_place p xs || has_place p ys)
has_place-append p [] ys = refl
has_place-append p (x ∷ xs) ys = grind (arith, has_place-append p xs ys)

or_again : (x r : Bool) → (x || r) ≡ (x || (x || r))
or_again true r = refl
or_again false r = refl

or_swap : (x y r : Bool) → (x || (y || r)) ≡ (y || (x || r))
or_swap true true r = refl
or_swap true false r = refl
or_swap false true r = refl
or_swap false false r = refl

-- a place is there behind one that was put, or was there
pub has_place-put : (p : ℕ) (a : Placed) (xs : List Placed)
    → has_place p (put a xs) ≡ (nat_eq a.place p || has_place p xs)
has_place-put p a [] = refl
has_place-put p a (x ∷ xs) =
    by_order a.place x.place (has_place p (put a (x ∷ xs)) ≡ (nat_eq a.place p || has_place p (x ∷ xs)))
    (λ less. ap (has_place p) (put-first a x xs less))
    (λ same. ap (has_place p) (put-same a x xs same)
    ∙ subst (λ n. (nat_eq x.place p || has_place p xs) ≡ (nat_eq n p || (nat_eq x.place p || has_place p xs)))
    (sym same) (or_again (nat_eq x.place p) (has_place p xs)))
    (λ more. ap (has_place p) (put-later a x xs more)
    ∙ ap (λ b. nat_eq x.place p || b) (has_place-put p a xs)
    ∙ or_swap (nat_eq x.place p) (nat_eq a.place p) (has_place p xs))

or_moved : (x y r : Bool) → ((x || y) || r) ≡ (y || (x || r))
or_moved true true r = refl
or_moved true false r = refl
or_moved false true r = refl
or_moved false false r = refl

or_none : (x : Bool) → (x || false) ≡ x
or_none true = refl
or_none false = refl

has_place-put_all : (p : ℕ) (kept xs : List Placed)
    → has_place p (put_all kept xs) ≡ (has_place p kept || has_place p xs)
has_place-put_all p kept [] = sym (or_none (has_place p kept))
has_place-put_all p kept (x ∷ xs) =
    has_place-put_all p (put x kept) xs
    ∙ ap (λ b. b || has_place p xs) (has_place-put p x kept)
    ∙ or_moved (nat_eq x.place p) (has_place p kept) (has_place p xs)

-- the same places are there in order
pub has_place-ordered : (p : ℕ) (xs : List Placed) → has_place p (ordered xs) ≡ has_place p xs
has_place-ordered p xs = has_place-put_all p [] xs

-- no place is there where all are less, or all are more

pub has-less : (p : ℕ) (xs : List Placed) → AllByRecursion (λ x. x.place < p) xs → has_place p xs ≡ false
has-less p [] less = refl
has-less p (x ∷ xs) less = rw (lt-other x.place p less.0) (has-less p xs less.1)

pub has-more : (p : ℕ) (xs : List Placed) → AllByRecursion (λ x. p < x.place) xs → has_place p xs ≡ false
has-more p [] more = refl
has-more p (x ∷ xs) more = rw (gt-other x.place p more.0) (has-more p xs more.1)
