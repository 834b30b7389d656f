-- What laws say of numbers, order and what is certain.
use Rattle.std.specs.Prelude.{◌≡◌, ℕ, ◌+◌, ◌<◌, ◌≤◌, max, nat_eq, if◌then◌else◌, List, [], ◌∷◌, ◌++◌, Option, None, Some}
use Rattle.std.specs.List.{AllByRecursion}
use Rattle.rtp_ends.specs.declared.event.Event.{Event}
use Rattle.rtp_ends.specs.Numbers.{Placed}
use Rattle.rtp_ends.specs.Report.{events_of}

-- each of these numbers is less than 32,768 from the greatest one before it
abbrev pub StaysNear : ℕ → List ℕ → Type 0
StaysNear greatest [] = Unit {0}
StaysNear greatest (k ∷ ks) =
    (greatest < k + 32768) × (k < greatest + 32768) × StaysNear (max greatest k) ks

-- the first arrival of a place
abbrev pub first_at : ℕ → List Placed → Option Placed
first_at place [] = None
first_at place (a ∷ rest) = if nat_eq a.place place then Some a else first_at place rest

-- events that are certain: those up to a packet that is settled, or none; behind them there is no settled packet
pub record IsCertainFront (greatest : ℕ) (arrivals : List Placed) (events : List Event) : Type 0 where
  pub before : List Placed
  pub behind : List Placed
  pub parts : arrivals ≡ before ++ behind
  pub events_are : events ≡ events_of before
  pub all_settled : AllByRecursion (λ a. a.place + 32768 ≤ greatest) before
  pub none_settled : AllByRecursion (λ a. greatest < a.place + 32768) behind
