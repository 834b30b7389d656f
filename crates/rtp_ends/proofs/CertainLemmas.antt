-- What is certain of arrivals in order.
use Rattle.std.proofs.Common.{◌≡◌, ℕ, ◌+◌, ◌<◌, ◌≤◌, nat_eq, Bool, true, false, ◌||◌, List, [], ◌∷◌, ◌++◌, refl, ap, lt-ltb, le-ltb, arith}
use Rattle.std.specs.List.{AllByRecursion}
use Rattle.std.proofs.lemmas.Bool.{le-leb, lt-leb, eqb-true}
use Rattle.rtp_ends.specs.Numbers.{Placed}
use Rattle.rtp_ends.specs.Report.{settled}
use Rattle.rtp_ends.specs.Slots.{AreWithin, has_place}
use Rattle.rtp_ends.specs.Holding.{AreSettled}
use Rattle.rtp_ends.specs.Receives.{open_of}
use Rattle.rtp_ends.proofs.OrderLemmas.{lt-other}

pub settled-none : (top : ℕ) (xs : List Placed) → AreWithin top xs → settled top xs ≡ []
settled-none top [] all = refl
settled-none top (x ∷ xs) all =
    rw (lt-leb (x.place + 32768) top all.0.above) (settled-none top xs all.1)

pub settled-front : (top : ℕ) (told kept : List Placed) → AreSettled top told → AreWithin top kept
    → settled top (told ++ kept) ≡ told
settled-front top [] kept all within = settled-none top kept within
settled-front top (x ∷ xs) kept all within =
    rw (le-leb (x.place + 32768) top all.0) (ap (λ l. x ∷ l) (settled-front top xs kept all.1 within))

open-all : (top : ℕ) (xs : List Placed) → AreWithin top xs → open_of top xs ≡ xs
open-all top [] all = refl
open-all top (x ∷ xs) all =
    rw (lt-ltb top (x.place + 32768) all.0.above) (ap (λ l. x ∷ l) (open-all top xs all.1))

pub open-rest : (top : ℕ) (told kept : List Placed) → AreSettled top told → AreWithin top kept
    → open_of top (told ++ kept) ≡ kept
open-rest top [] kept all within = open-all top kept within
open-rest top (x ∷ xs) kept all within =
    rw (le-ltb top (x.place + 32768) all.0) (open-rest top xs kept all.1 within)

pub settled-less : (top place : ℕ) (xs : List Placed) → top < place + 32768 → AreSettled top xs
    → AllByRecursion (λ x. x.place < place) xs
settled-less top place [] above all = tt
settled-less top place (x ∷ xs) above all =
    let first : x.place + 32768 ≤ top = all.0 in
    (omega arith, settled-less top place xs above all.1)

most_by : (top place p : ℕ) (xs : List Placed) (b : Bool) → nat_eq p place ≡ b → p ≤ top → (b || has_place place xs) ≡ true
    → (has_place place xs ≡ true → place ≤ top) → place ≤ top
most_by top place p xs true same most has later =
    let is : p ≡ place = eqb-true p place same in
    omega arith
most_by top place p xs false same most has later = later has

pub within-most : (top place : ℕ) (xs : List Placed) → AreWithin top xs → has_place place xs ≡ true → place ≤ top
within-most top place [] all has = absurd cc
within-most top place (x ∷ xs) all has =
    most_by top place x.place xs (nat_eq x.place place) refl all.0.most has
    (λ later. within-most top place xs all.1 later)

-- no place above the greatest one is kept
pub within-none : (top place : ℕ) (xs : List Placed) → AreWithin top xs → top < place → has_place place xs ≡ false
within-none top place [] all more = refl
within-none top place (x ∷ xs) all more =
    let most : x.place ≤ top = all.0.most in
    rw (lt-other x.place place (omega arith)) (within-none top place xs all.1 more)
