-- The place of a sequence number, and one arrival more.
use Rattle.std.proofs.Common.{◌≡◌, ℕ, ◌+◌, ◌-◌, ◌%◌, ◌<◌, ◌≤◌, max, nat_le, true, false, List, [], ◌∷◌, ◌++◌, if◌then◌else◌, Bool, refl, ap, sym, subst, ◌∙◌, arith}
use Rattle.std.proofs.lemmas.Bool.{le-leb, lt-leb}
use Rattle.rtp_ends.specs.Numbers.{Heard, Placed, ahead_of, place_after, IsPlaceAfter, placed_at, placed_after, placed, greatest_of, next_place}

-- the rule gives one place
pub IsPlaceAfter-one : (greatest seq p q : ℕ) → IsPlaceAfter greatest seq p → IsPlaceAfter greatest seq q → p ≡ q
IsPlaceAfter-one greatest seq p q is other =
    let same : p % 65536 ≡ q % 65536 = is.same ∙ sym other.same in
    let above : greatest < p + 32768 = is.above in
    let within : p ≤ greatest + 32768 = is.within in
    let other_above : greatest < q + 32768 = other.above in
    let other_within : q ≤ greatest + 32768 = other.within in
    omega arith

by_test : (greatest seq : ℕ) → 65536 ≤ greatest → seq < 65536 → (b : Bool) → nat_le (ahead_of greatest seq) 32768 ≡ b
    → IsPlaceAfter greatest seq
    (if b then greatest + ahead_of greatest seq else greatest + ahead_of greatest seq - 65536)
by_test greatest seq high fits true test =
    let most : ahead_of greatest seq ≤ 32768 = search (arith, test) in
    record { same = omega arith; above = omega arith; within = omega arith }
by_test greatest seq high fits false test =
    let some : 32768 < ahead_of greatest seq = search (arith, test) in
    record { same = omega arith; above = omega arith; within = omega arith }

pub place_after-is : (greatest seq : ℕ) → 65536 ≤ greatest → seq < 65536
    → IsPlaceAfter greatest seq (place_after greatest seq)
unfolding place_after
place_after-is greatest seq high fits = by_test greatest seq high fits (nat_le (ahead_of greatest seq) 32768) refl

pub max_assoc : (a b c : ℕ) → max (max a b) c ≡ max a (max b c)
max_assoc a b c = omega arith

pub greatest_of-more : (xs : List Placed) (a : Placed)
    → greatest_of (xs ++ a ∷ []) ≡ max (greatest_of xs) a.place
greatest_of-more [] a = omega arith
greatest_of-more (x ∷ xs) a =
    ap (λ n. max x.place n) (greatest_of-more xs a) ∙ sym (max_assoc x.place (greatest_of xs) a.place)

placed_after-more : (greatest : ℕ) (hs : List Heard) (h : Heard)
    → placed_after greatest (hs ++ h ∷ [])
    ≡ placed_after greatest hs
    ++ placed_at (place_after (max greatest (greatest_of (placed_after greatest hs))) h.seq) h ∷ []
placed_after-more greatest [] h =
    ap (λ n. placed_at (place_after n h.seq) h ∷ []) (omega arith)
placed_after-more greatest (x ∷ xs) h =
    let p = place_after greatest x.seq in
    ap (λ l. placed_at p x ∷ l)
    (placed_after-more (max greatest p) xs h
    ∙ ap (λ n. placed_after (max greatest p) xs ++ placed_at (place_after n h.seq) h ∷ [])
    (max_assoc greatest p (greatest_of (placed_after (max greatest p) xs))))

-- one arrival more gets the next place
pub placed-more : (hs : List Heard) (h : Heard)
    → placed (hs ++ h ∷ []) ≡ placed hs ++ placed_at (next_place hs h.seq) h ∷ []
placed-more [] h = refl
placed-more (x ∷ xs) h = ap (λ l. placed_at (65536 + x.seq) x ∷ l) (placed_after-more (65536 + x.seq) xs h)

-- the two cases

pub place_after-near : (greatest seq s : ℕ) → s ≡ seq → ahead_of greatest s ≤ 32768
    → greatest + ahead_of greatest s ≡ place_after greatest seq
unfolding place_after
place_after-near greatest seq s same near =
    subst (λ q. greatest + ahead_of greatest s ≡ place_after greatest q) same
    (rw (le-leb (ahead_of greatest s) 32768 near) refl)

pub place_after-far : (greatest seq s : ℕ) → s ≡ seq → 32768 < ahead_of greatest s
    → greatest + ahead_of greatest s - 65536 ≡ place_after greatest seq
unfolding place_after
place_after-far greatest seq s same far =
    subst (λ q. greatest + ahead_of greatest s - 65536 ≡ place_after greatest q) same
    (rw (lt-leb (ahead_of greatest s) 32768 far) refl)
