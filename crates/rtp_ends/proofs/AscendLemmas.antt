-- Arrivals in order ascend, and what follows from that.
use Rattle.std.proofs.Common.{◌≡◌, ℕ, ◌+◌, ◌<◌, true, false, List, [], ◌∷◌, length, refl, ap, sym, subst, ◌∙◌, arith}
use Rattle.std.specs.List.{AllByRecursion}
use Rattle.rtp_ends.specs.Numbers.{Placed}
use Rattle.rtp_ends.specs.Order.{put, put_all, ordered, Ascend}
use Rattle.rtp_ends.specs.Slots.{has_place}
use Rattle.rtp_ends.proofs.OrderLemmas.{by_order, put-first, put-same, put-later, lt-other, has-more}

-- all above a number
pub Above-put : (n : ℕ) (a : Placed) (xs : List Placed) → n < a.place
    → AllByRecursion (λ b. n < b.place) xs → AllByRecursion (λ b. n < b.place) (put a xs)
Above-put n a [] above all = (above, tt)
Above-put n a (x ∷ xs) above all =
    by_order a.place x.place (AllByRecursion (λ b. n < b.place) (put a (x ∷ xs)))
    (λ less. subst (AllByRecursion (λ b. n < b.place)) (sym (put-first a x xs less)) (above, all))
    (λ same. subst (AllByRecursion (λ b. n < b.place)) (sym (put-same a x xs same)) all)
    (λ more. subst (AllByRecursion (λ b. n < b.place)) (sym (put-later a x xs more))
    (all.0, Above-put n a xs above all.1))

pub Above-weaker : (m n : ℕ) (xs : List Placed) → m < n
    → AllByRecursion (λ b. n < b.place) xs → AllByRecursion (λ b. m < b.place) xs
Above-weaker m n [] less all = tt
Above-weaker m n (x ∷ xs) less all =
    let first : n < x.place = all.0 in
    (omega arith, Above-weaker m n xs less all.1)

pub Ascend-put : (a : Placed) (xs : List Placed) → Ascend xs → Ascend (put a xs)
Ascend-put a [] asc = (tt, tt)
Ascend-put a (x ∷ xs) asc =
    by_order a.place x.place (Ascend (put a (x ∷ xs)))
    (λ less. subst Ascend (sym (put-first a x xs less)) ((less, Above-weaker a.place x.place xs less asc.0), asc))
    (λ same. subst Ascend (sym (put-same a x xs same)) asc)
    (λ more. subst Ascend (sym (put-later a x xs more)) (Above-put x.place a xs more asc.0, Ascend-put a xs asc.1))

pub Ascend-put_all : (kept xs : List Placed) → Ascend kept → Ascend (put_all kept xs)
Ascend-put_all kept [] asc = asc
Ascend-put_all kept (x ∷ xs) asc = Ascend-put_all (put x kept) xs (Ascend-put x kept asc)

pub ordered-ascends : (xs : List Placed) → Ascend (ordered xs)
ordered-ascends xs = Ascend-put_all [] xs tt

-- a place that is there changes nothing
pub put-held : (a : Placed) (xs : List Placed) → Ascend xs → has_place a.place xs ≡ true → put a xs ≡ xs
put-held a [] asc held = absurd cc
put-held a (x ∷ xs) asc held =
    by_order a.place x.place (put a (x ∷ xs) ≡ x ∷ xs)
    (λ less.
    let none : has_place a.place (x ∷ xs) ≡ false = has-more a.place (x ∷ xs) (less, Above-weaker a.place x.place xs less asc.0) in
    absurd cc)
    (λ same. put-same a x xs same)
    (λ more. put-later a x xs more
    ∙ ap (λ l. x ∷ l) (put-held a xs asc.1 (rw (lt-other x.place a.place more) at held)))

-- and one that isn't there makes the list longer by one
pub length-put : (a : Placed) (xs : List Placed) → has_place a.place xs ≡ false
    → length (put a xs) ≡ length xs + 1
length-put a [] free = refl
length-put a (x ∷ xs) free =
    by_order a.place x.place (length (put a (x ∷ xs)) ≡ length (x ∷ xs) + 1)
    (λ less. ap length (put-first a x xs less) ∙ omega arith)
    (λ same. absurd (grind arith))
    (λ more.
    let rest : length (put a xs) ≡ length xs + 1 = length-put a xs (rw (lt-other x.place a.place more) at free) in
    ap length (put-later a x xs more) ∙ omega arith)
