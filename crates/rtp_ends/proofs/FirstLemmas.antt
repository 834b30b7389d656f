-- In order, each place has its first arrival.
use Rattle.std.proofs.Common.{◌≡◌, ℕ, ◌<◌, ◌≤◌, nat_eq, Bool, true, false, if◌then◌else◌, List, [], ◌∷◌, Option, None, Some, refl, ap, sym, ◌∙◌, arith}
use Rattle.std.specs.List.{AllByRecursion}
use Rattle.std.proofs.lemmas.Bool.{eqb-true}
use Rattle.rtp_ends.specs.Numbers.{Placed}
use Rattle.rtp_ends.specs.Order.{put, put_all, ordered, Ascend}
use Rattle.rtp_ends.specs.ReportLaws.{first_at}
use Rattle.rtp_ends.proofs.OrderLemmas.{by_order, put-first, put-same, put-later, gt-other}
use Rattle.rtp_ends.proofs.AscendLemmas.{Above-weaker, Ascend-put}

-- the first one, or else the other
abbrev or_else : Option Placed → Option Placed → Option Placed
or_else None b = b
or_else (Some a) b = Some a

or_else-none : (o : Option Placed) → or_else o None ≡ o
or_else-none None = refl
or_else-none (Some a) = refl

or_else-assoc : (o b c : Option Placed) → or_else (or_else o b) c ≡ or_else o (or_else b c)
or_else-assoc None b c = refl
or_else-assoc (Some a) b c = refl

none-above : (p n : ℕ) (xs : List Placed) → p ≤ n → AllByRecursion (λ x. n < x.place) xs → first_at p xs ≡ None
none-above p n [] most all = refl
none-above p n (x ∷ xs) most all =
    let above : n < x.place = all.0 in
    rw (gt-other x.place p (omega arith)) (none-above p n xs most all.1)

-- one arrival alone
abbrev only_at : ℕ → Placed → Option Placed
only_at p a = if nat_eq a.place p then Some a else None

before-by : (p : ℕ) (a : Placed) (rest : List Placed) (b : Bool) → nat_eq a.place p ≡ b
    → (nat_eq a.place p ≡ true → first_at p rest ≡ None)
    → (if b then Some a else first_at p rest) ≡ or_else (first_at p rest) (if b then Some a else None)
before-by p a rest true same none = rw (none same) refl
before-by p a rest false same none = sym (or_else-none (first_at p rest))

found-same : (p : ℕ) (a x : Placed) (xs : List Placed) (b : Bool) → a.place ≡ x.place → nat_eq x.place p ≡ b
    → (if b then Some x else first_at p xs)
    ≡ or_else (if b then Some x else first_at p xs) (if b then Some a else None)
found-same p a x xs true same test = refl
found-same p a x xs false same test = sym (or_else-none (first_at p xs))

later-by : (p : ℕ) (a x : Placed) (put_xs xs : List Placed) (b : Bool)
    → first_at p put_xs ≡ or_else (first_at p xs) (only_at p a)
    → (if b then Some x else first_at p put_xs)
    ≡ or_else (if b then Some x else first_at p xs) (only_at p a)
later-by p a x put_xs xs true rest = refl
later-by p a x put_xs xs false rest = rest

first_at-put : (p : ℕ) (a : Placed) (xs : List Placed) → Ascend xs
    → first_at p (put a xs) ≡ or_else (first_at p xs) (only_at p a)
first_at-put p a [] asc = refl
first_at-put p a (x ∷ xs) asc =
    by_order a.place x.place (first_at p (put a (x ∷ xs)) ≡ or_else (first_at p (x ∷ xs)) (only_at p a))
    (λ less. ap (first_at p) (put-first a x xs less)
    ∙ before-by p a (x ∷ xs) (nat_eq a.place p) refl
    (λ same. none-above p a.place (x ∷ xs) (let is = eqb-true a.place p same in omega arith)
    (less, Above-weaker a.place x.place xs less asc.0)))
    (λ same. ap (first_at p) (put-same a x xs same)
    ∙ found-same p a x xs (nat_eq x.place p) same refl
    ∙ ap (λ n. or_else (first_at p (x ∷ xs)) (if nat_eq n p then Some a else None)) (sym same))
    (λ more. ap (first_at p) (put-later a x xs more)
    ∙ later-by p a x (put a xs) xs (nat_eq x.place p) (first_at-put p a xs asc.1))

first_at-cons : (p : ℕ) (a : Placed) (xs : List Placed) (b : Bool) → nat_eq a.place p ≡ b
    → or_else (if b then Some a else None) (first_at p xs) ≡ (if b then Some a else first_at p xs)
first_at-cons p a xs true test = refl
first_at-cons p a xs false test = refl

first_at-put_all : (p : ℕ) (kept xs : List Placed) → Ascend kept
    → first_at p (put_all kept xs) ≡ or_else (first_at p kept) (first_at p xs)
first_at-put_all p kept [] asc = sym (or_else-none (first_at p kept))
first_at-put_all p kept (x ∷ xs) asc =
    first_at-put_all p (put x kept) xs (Ascend-put x kept asc)
    ∙ ap (λ o. or_else o (first_at p xs)) (first_at-put p x kept asc)
    ∙ or_else-assoc (first_at p kept) (only_at p x) (first_at p xs)
    ∙ ap (or_else (first_at p kept)) (first_at-cons p x xs (nat_eq x.place p) refl)

pub first_at-ordered : (p : ℕ) (xs : List Placed) → first_at p (ordered xs) ≡ first_at p xs
first_at-ordered p xs = first_at-put_all p [] xs tt
