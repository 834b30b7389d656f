-- What stands in the slots of a row of places.
use Rattle.std.proofs.Common.{◌≡◌, ◌≢◌, ℕ, zero, suc, ◌+◌, ◌%◌, ◌<◌, ◌≤◌, ◌||◌, List, [], ◌∷◌, ◌++◌, length, get_or, set, Option, None, Some, is_some, refl, ap, sym, subst, ◌∙◌, append_assoc, append-nil, length-append, arith}
use Rattle.std.proofs.lemmas.List.{get_or-set_other, get_or-set_same}
use Rattle.std.proofs.lemmas.Bool.{eq-eqb}
use Rattle.std.specs.List.{AllByRecursion}
use Rattle.rtp_ends.specs.declared.ring.Kept.{Kept}
use Rattle.rtp_ends.specs.Numbers.{Placed}
use Rattle.rtp_ends.specs.Order.{put}
use Rattle.rtp_ends.specs.Slots.{with_place, at_place, held_from, IsInWindow, AreWithin, has_place}
use Rattle.rtp_ends.proofs.OrderLemmas.{by_order, put-behind, put-first, lt-other, has-more}

-- what stands at one place, before others

within_at : (top p : ℕ) (o : Option Kept) (rest : List Placed)
    → IsInWindow top (record { place = p; stamp = 0; payload = [] }) → AreWithin top rest → AreWithin top (at_place p o ++ rest)
within_at top p None rest is all = all
within_at top p (Some k) rest is all = (record { most = is.most; above = is.above }, all)

above_at : (least p : ℕ) (o : Option Kept) (rest : List Placed) → least < p
    → AllByRecursion (λ b. least < b.place) rest → AllByRecursion (λ b. least < b.place) (at_place p o ++ rest)
above_at least p None rest less all = all
above_at least p (Some k) rest less all = (less, all)

less_at : (place p : ℕ) (o : Option Kept) → p < place → AllByRecursion (λ b. b.place < place) (at_place p o)
less_at place p None less = tt
less_at place p (Some k) less = (less, tt)

length-at_place : (p : ℕ) (o : Option Kept) → length (at_place p o) ≤ 1
length-at_place p None = omega arith
length-at_place p (Some k) = omega arith

has-later : (place p : ℕ) (o : Option Kept) (rest : List Placed) → p < place
    → has_place place (at_place p o ++ rest) ≡ has_place place rest
has-later place p None rest less = refl
has-later place p (Some k) rest less = ap (λ b. b || has_place place rest) (lt-other p place less)

has-here : (p : ℕ) (o : Option Kept) (rest : List Placed) → AllByRecursion (λ b. p < b.place) rest
    → has_place p (at_place p o ++ rest) ≡ is_some o
has-here p None rest all = has-more p rest all
has-here p (Some k) rest all = ap (λ b. b || has_place p rest) (eq-eqb p p refl)

-- before arrivals that are all behind it
pub put-before : (a : Placed) (xs : List Placed) → AllByRecursion (λ b. a.place < b.place) xs → put a xs ≡ a ∷ xs
put-before a [] all = refl
put-before a (x ∷ xs) all = put-first a x xs all.0

-- a slot that isn't met may be another one
pub held_from-other : (slots : List (Option Kept)) (q : ℕ) (v : Option Kept) (p n : ℕ)
    → ((j : ℕ) → p ≤ j → j < p + n → (j % 32768) ≢ q)
    → held_from (set slots q v) p n ≡ held_from slots p n
held_from-other slots q v p zero other = refl
held_from-other slots q v p (suc n) other =
    ap (λ o. at_place p o ++ held_from (set slots q v) (p + 1) n)
    (get_or-set_other slots q (p % 32768) v None (other p (omega arith) (omega arith)))
    ∙ ap (λ l. at_place p (get_or slots (p % 32768) None) ++ l)
    (held_from-other slots q v (p + 1) n (λ j from to. other j (omega arith) (omega arith)))

-- one place more
pub held_from-more : (slots : List (Option Kept)) (p n : ℕ)
    → held_from slots p (suc n) ≡ held_from slots p n ++ at_place (p + n) (get_or slots ((p + n) % 32768) None)
held_from-more slots p zero =
    append-nil (at_place p (get_or slots (p % 32768) None))
    ∙ ap (λ k. at_place k (get_or slots (k % 32768) None)) (omega arith)
held_from-more slots p (suc n) =
    ap (λ l. at_place p (get_or slots (p % 32768) None) ++ l)
    (held_from-more slots (p + 1) n
    ∙ ap (λ k. held_from slots (p + 1) n ++ at_place k (get_or slots (k % 32768) None)) (omega arith))
    ∙ sym (append_assoc (at_place p (get_or slots (p % 32768) None)) (held_from slots (p + 1) n)
    (at_place (p + suc n) (get_or slots ((p + suc n) % 32768) None)))

pub held_from-within : (slots : List (Option Kept)) (top p n : ℕ) → top < p + 32768 → p + n ≤ top + 1
    → AreWithin top (held_from slots p n)
held_from-within slots top p zero low high = tt
held_from-within slots top p (suc n) low high =
    within_at top p (get_or slots (p % 32768) None) (held_from slots (p + 1) n)
    (record { most = omega arith; above = omega arith })
    (held_from-within slots top (p + 1) n (omega arith) (omega arith))

pub held_from-above : (slots : List (Option Kept)) (least p n : ℕ) → least < p
    → AllByRecursion (λ b. least < b.place) (held_from slots p n)
held_from-above slots least p zero less = tt
held_from-above slots least p (suc n) less =
    above_at least p (get_or slots (p % 32768) None) (held_from slots (p + 1) n) less
    (held_from-above slots least (p + 1) n (omega arith))

pub length-held_from : (slots : List (Option Kept)) (p n : ℕ) → length (held_from slots p n) ≤ n
length-held_from slots p zero = omega arith
length-held_from slots p (suc n) =
    let rest = length-held_from slots (p + 1) n in
    let both = length-append (at_place p (get_or slots (p % 32768) None)) (held_from slots (p + 1) n) in
    let one = length-at_place p (get_or slots (p % 32768) None) in
    omega arith

-- free slots
pub held_from-free : (slots : List (Option Kept)) (p n : ℕ)
    → ((i : ℕ) → get_or slots i None ≡ None) → held_from slots p n ≡ []
held_from-free slots p zero free = refl
held_from-free slots p (suc n) free =
    ap (λ o. at_place p o ++ held_from slots (p + 1) n) (free (p % 32768)) ∙ held_from-free slots (p + 1) n free

-- whether a place is held is whether something stands in its slot
pub held_from-has : (slots : List (Option Kept)) (place p n : ℕ) → p ≤ place → place < p + n
    → has_place place (held_from slots p n) ≡ is_some (get_or slots (place % 32768) None)
held_from-has slots place p zero from to = absurd (omega arith)
held_from-has slots place p (suc n) from to =
    by_order p place (has_place place (held_from slots p (suc n)) ≡ is_some (get_or slots (place % 32768) None))
    (λ less. has-later place p (get_or slots (p % 32768) None) (held_from slots (p + 1) n) less
    ∙ held_from-has slots place (p + 1) n (omega arith) (omega arith))
    (λ same. subst (λ k. has_place k (held_from slots p (suc n)) ≡ is_some (get_or slots (k % 32768) None)) same
    (has-here p (get_or slots (p % 32768) None) (held_from slots (p + 1) n) (held_from-above slots p (p + 1) n (omega arith))))
    (λ more. absurd (omega arith))

put-later_at : (slots : List (Option Kept)) (place : ℕ) (k : Kept) (p n : ℕ) → p < place → place < p + suc n → suc n ≤ 32768
    → held_from (set slots (place % 32768) (Some k)) (p + 1) n ≡ put (with_place place k) (held_from slots (p + 1) n)
    → held_from (set slots (place % 32768) (Some k)) p (suc n) ≡ put (with_place place k) (held_from slots p (suc n))
put-later_at slots place k p n less to few rest =
    ap (λ o. at_place p o ++ held_from (set slots (place % 32768) (Some k)) (p + 1) n)
    (get_or-set_other slots (place % 32768) (p % 32768) (Some k) None (λ same. absurd (omega arith)))
    ∙ ap (λ l. at_place p (get_or slots (p % 32768) None) ++ l) rest
    ∙ sym (put-behind (with_place place k) (at_place p (get_or slots (p % 32768) None)) (held_from slots (p + 1) n)
    (less_at place p (get_or slots (p % 32768) None) less))

put-here : (slots : List (Option Kept)) (place : ℕ) (k : Kept) (n : ℕ) → suc n ≤ 32768
    → place % 32768 < length slots → get_or slots (place % 32768) None ≡ None
    → held_from (set slots (place % 32768) (Some k)) place (suc n) ≡ put (with_place place k) (held_from slots place (suc n))
put-here slots place k n few fits free =
    ap (λ o. at_place place o ++ held_from (set slots (place % 32768) (Some k)) (place + 1) n)
    (get_or-set_same slots (place % 32768) (Some k) None fits)
    ∙ ap (λ l. with_place place k ∷ l)
    (held_from-other slots (place % 32768) (Some k) (place + 1) n (λ j from to same. absurd (omega arith)))
    ∙ sym (put-before (with_place place k) (held_from slots (place + 1) n) (held_from-above slots place (place + 1) n (omega arith)))
    ∙ ap (λ o. put (with_place place k) (at_place place o ++ held_from slots (place + 1) n)) (sym free)

-- a packet is put into a free slot
pub held_from-put : (slots : List (Option Kept)) (place : ℕ) (k : Kept) (p n : ℕ)
    → p ≤ place → place < p + n → n ≤ 32768 → place % 32768 < length slots
    → get_or slots (place % 32768) None ≡ None
    → held_from (set slots (place % 32768) (Some k)) p n ≡ put (with_place place k) (held_from slots p n)
held_from-put slots place k p zero from to few fits free = absurd (omega arith)
held_from-put slots place k p (suc n) from to few fits free =
    by_order p place
    (held_from (set slots (place % 32768) (Some k)) p (suc n) ≡ put (with_place place k) (held_from slots p (suc n)))
    (λ less. put-later_at slots place k p n less to few
    (held_from-put slots place k (p + 1) n (omega arith) (omega arith) (omega arith) fits free))
    (λ same. subst
    (λ q. held_from (set slots (place % 32768) (Some k)) q (suc n) ≡ put (with_place place k) (held_from slots q (suc n)))
    (sym same) (put-here slots place k n few fits free))
    (λ more. absurd (omega arith))
