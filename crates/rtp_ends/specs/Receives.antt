-- For which arrivals a receiver stands, and what it gives out.
use Rattle.std.specs.Prelude.{◌≡◌, ℕ, ◌+◌, ◌*◌, ◌^◌, ◌≤◌, ◌<◌, max, nat_eq, nat_lt, if◌then◌else◌, List, [], ◌∷◌, ◌++◌, length, Option, None}
use Rattle.rtp_ends.specs.declared.event.Event.{Event}
use Rattle.rtp_ends.specs.declared.event.Arrival.{Arrival}
use Rattle.rtp_ends.specs.declared.event.Arrival.TheVariants.{New, Repeat}
use Rattle.rtp_ends.specs.declared.receiver.Receiver.TheInside.{Inside}
use Rattle.std.specs.List.{filter}
use Rattle.rtp_ends.specs.declared.ring.Kept.{Kept}
use Rattle.rtp_ends.specs.Numbers.{Heard, Placed, number_at, place_after, IsPlaceAfter, placed, greatest_of, next_place}
use Rattle.rtp_ends.specs.Order.{put, ordered}
use Rattle.rtp_ends.specs.Report.{certain_events}
use Rattle.rtp_ends.specs.Slots.{AreWithin, with_place, has_place}
use Rattle.rtp_ends.specs.Holding.{AreSettled, last_of, Held, Gave}

-- the greatest place, what is kept, the last place that was told, and how many packets arrived
pub record ReceiverState : Type 0 where
  pub top : ℕ
  pub kept : List Placed
  pub last : Option ℕ
  pub arrivals : ℕ

abbrev pub receiver_inside : Inside → ReceiverState
receiver_inside r = record {
  top = r.buffer.top;
  kept = r.buffer.kept;
  last = r.buffer.last;
  arrivals = r.arrivals;
}

pub record IsReceiver (r : Inside) : Type 0 where
  pub none : r.arrivals ≡ 0 → r.buffer.kept ≡ []
  pub high : 0 < r.arrivals → 65536 ≤ r.buffer.top
  pub low : r.buffer.top ≤ 131072 + 32768 * r.arrivals
  pub within : AreWithin r.buffer.top r.buffer.kept
  pub most : r.arrivals ≤ 2 ^ 40

-- the greatest place of some arrivals
abbrev pub IsGreatest : ℕ → List Heard → Type 0
IsGreatest top [] = Unit {0}
IsGreatest top (h ∷ hs) = top ≡ greatest_of (placed (h ∷ hs))

-- It got these arrivals, told these ones of them, and keeps the rest.
pub record StandsHaving (s : ReceiverState) (heard : List Heard) (told : List Placed) : Type 0 where
  pub count : s.arrivals ≡ length heard
  pub greatest : IsGreatest s.top heard
  pub order : ordered (placed heard) ≡ told ++ s.kept
  pub settled : AreSettled s.top told
  pub within : AreWithin s.top s.kept
  pub last_is : s.last ≡ last_of None told

-- the receiver got these arrivals, one after the other
abbrev pub ReceiverStands : ReceiverState → List Heard → Type 0
ReceiverStands s heard = (told : List Placed) × StandsHaving s heard told

-- the answer to an arrival with this sequence number behind these ones
abbrev pub answer_to : List Heard → ℕ → Arrival
answer_to heard seq =
    if has_place (next_place heard seq) (placed heard)
    then Repeat (number_at (next_place heard seq))
    else New (number_at (next_place heard seq))

-- what is told now is what was told and some more, and just this was appended
pub record GivesOut (was now before after : List Event) : Type 0 where
  pub gained : List Event
  pub more : now ≡ was ++ gained
  pub out_is : after ≡ before ++ gained

-- one arrival more
pub record HasArrived (new : ReceiverState) (heard : List Heard) (x : Heard) (answer : Arrival) (before after : List Event) : Type 0 where
  pub stands : ReceiverStands new (heard ++ x ∷ [])
  pub answer_is : answer ≡ answer_to heard x.seq
  pub gives : GivesOut (certain_events heard) (certain_events (heard ++ x ∷ [])) before after

-- a repeat changes the count of arrivals alone
abbrev pub counted : ReceiverState → ReceiverState
counted s = record { top = s.top; kept = s.kept; last = s.last; arrivals = s.arrivals + 1 }

abbrev pub OnRepeat : Arrival → Type 0 → Type 0
OnRepeat (New number) P = Unit {0}
OnRepeat (Repeat number) P = P

-- the place of a sequence number, as a receiver tells it
abbrev pub place_in : ReceiverState → ℕ → ℕ
place_in s seq = if nat_eq s.arrivals 0 then 65536 + seq else place_after s.top seq

-- what is known of it
pub record IsPlaceIn (s : ReceiverState) (seq place : ℕ) : Type 0 where
  pub first : s.arrivals ≡ 0 → place ≡ 65536 + seq
  pub later : 0 < s.arrivals → IsPlaceAfter s.top seq place
  pub most : place < 2 ^ 62

-- the greatest place, or the first one
abbrev pub top_from : ReceiverState → ℕ → ℕ
top_from s place = if nat_eq s.arrivals 0 then place else s.top

abbrev pub held_of : ReceiverState → Held
held_of s = record { top = s.top; kept = s.kept; last = s.last }

-- a receiver goes to this place, and keeps a packet there
pub record KeepsBehind (new : ReceiverState) (place : ℕ) (kept : Kept) (mid : Held) : Type 0 where
  pub top_is : new.top ≡ mid.top
  pub last_is : new.last ≡ mid.last
  pub kept_is : new.kept ≡ put (with_place place kept) mid.kept

pub record Keeps (old new : ReceiverState) (place : ℕ) (kept : Kept) (before after : List Event) : Type 0 where
  pub mid : Held
  pub gave : Gave (held_of old) mid before after
  pub reached : mid.top ≡ max old.top place
  pub keeps : KeepsBehind new place kept mid
  pub counts : new.arrivals ≡ old.arrivals + 1
  pub within : AreWithin new.top new.kept

-- the arrivals above the greatest place less 32,768
abbrev pub open_of : ℕ → List Placed → List Placed
open_of greatest arrivals = filter (λ a. nat_lt greatest (a.place + 32768)) arrivals

-- the first arrivals of the numbers above the greatest one less 32,768
abbrev pub open_arrivals : List Heard → List Placed
open_arrivals heard = open_of (greatest_of (placed heard)) (ordered (placed heard))
