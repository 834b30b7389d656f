-- The ring of slots, as the list of what stands in the last 32,768 places.
use Rattle.std.specs.Prelude.{◌≡◌, ℕ, zero, suc, ◌+◌, ◌-◌, ◌/◌, ◌%◌, ◌<◌, ◌≤◌, Bool, true, false, List, [], ◌∷◌, ◌++◌, length, get_or, Option, None, Some}
use Rattle.std.specs.List.{AllByRecursion, list_any}
use Rattle.std.specs.Prelude.{nat_eq}
use Rattle.rtp_ends.specs.declared.ring.Kept.{Kept}
use Rattle.rtp_ends.specs.declared.ring.Ring.TheInside.{Inside}
use Rattle.rtp_ends.specs.Numbers.{Placed}

-- the greatest place, and what is kept, in the order of the places
pub record RingState : Type 0 where
  pub top : ℕ
  pub kept : List Placed

abbrev pub with_place : ℕ → Kept → Placed
with_place place k = record { place = place; stamp = k.stamp; payload = k.payload }

abbrev pub at_place : ℕ → Option Kept → List Placed
at_place place None = []
at_place place (Some k) = with_place place k ∷ []

-- what stands in the slots of so many places from one on
abbrev pub held_from : List (Option Kept) → ℕ → ℕ → List Placed
held_from slots place zero = []
held_from slots place (suc count) =
    at_place place (get_or slots (place % 32768) None) ++ held_from slots (place + 1) count

-- as many places as there are slots, up to the greatest one
abbrev pub window_of : List (Option Kept) → ℕ → List Placed
window_of slots top = held_from slots (top + 1 - length slots) (length slots)

abbrev pub ring_inside : Inside → RingState
ring_inside r = record { top = r.top; kept = window_of r.slots.items r.top }

-- nothing stands in the slots of a block without a mark; a block is 256 slots
abbrev pub AreMarked : List Bool → List (Option Kept) → Type 0
AreMarked marks slots = (i : ℕ) → get_or marks (i / 256) true ≡ false → get_or slots i None ≡ None

-- nothing stands in any slot
abbrev pub AreFree : List (Option Kept) → Type 0
AreFree slots = (i : ℕ) → get_or slots i None ≡ None

-- nothing stands in the slots of the places above one and up to another
abbrev pub AreFreeUpTo : List (Option Kept) → ℕ → ℕ → Type 0
AreFreeUpTo slots top to = (p : ℕ) → top < p → p ≤ to → get_or slots (p % 32768) None ≡ None

pub record IsRing (r : Inside) : Type 0 where
  pub sized : length r.slots.items ≡ 32768
  pub high : 32768 ≤ r.top
  pub marked : AreMarked r.marks r.slots.items

-- a place of the last 32,768
pub record IsInWindow (top : ℕ) (a : Placed) : Type 0 where
  pub most : a.place ≤ top
  pub above : top < a.place + 32768

abbrev pub AreWithin : ℕ → List Placed → Type 0
AreWithin top arrivals = AllByRecursion (IsInWindow top) arrivals

abbrev pub has_place : ℕ → List Placed → Bool
has_place place arrivals = list_any (λ a. nat_eq a.place place) arrivals
