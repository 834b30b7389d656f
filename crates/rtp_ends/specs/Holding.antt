-- What is kept until it is certain, and what is told of it.
use Rattle.std.specs.Prelude.{◌≡◌, ℕ, ◌+◌, ◌*◌, ◌≤◌, min, List, [], ◌∷◌, ◌++◌, length, Option, None, Some, IfSome}
use Rattle.std.specs.List.{AllByRecursion}
use Rattle.rtp_ends.specs.declared.event.Event.{Event}
use Rattle.rtp_ends.specs.declared.buffer.Buffer.TheInside.{Inside}
use Rattle.rtp_ends.specs.Numbers.{Placed}
use Rattle.rtp_ends.specs.Report.{gap_between, events_after, events_of}
use Rattle.rtp_ends.specs.Slots.{AreWithin}

-- the greatest place, what is kept, and the last place that was told
pub record Held : Type 0 where
  pub top : ℕ
  pub kept : List Placed
  pub last : Option ℕ

abbrev pub held_inside : Inside → Held
held_inside b = record { top = b.ring.top; kept = b.ring.kept; last = b.last }

pub record IsHolding (b : Inside) : Type 0 where
  pub counted : b.held ≡ length b.ring.kept
  pub within : AreWithin b.ring.top b.ring.kept
  pub told : IfSome b.last (λ place. place + 32768 ≤ b.ring.top)
  pub most : b.held ≤ 32768

-- the events of ascending arrivals, where this place was told last, if any was
abbrev pub events_since : Option ℕ → List Placed → List Event
events_since None arrivals = events_of arrivals
events_since (Some place) arrivals = events_after place arrivals

-- the place that is told last then
abbrev pub last_of : Option ℕ → List Placed → Option ℕ
last_of last [] = last
last_of last (a ∷ rest) = last_of (Some a.place) rest

-- the arrivals behind which no place can come any more
abbrev pub AreSettled : ℕ → List Placed → Type 0
AreSettled top arrivals = AllByRecursion (λ a. a.place + 32768 ≤ top) arrivals

-- These arrivals, all settled, were told and are no longer kept.
pub record GaveThese (old new : Held) (before after : List Event) (gone : List Placed) : Type 0 where
  pub kept_are : old.kept ≡ gone ++ new.kept
  pub out_is : after ≡ before ++ events_since old.last gone
  pub last_is : new.last ≡ last_of old.last gone
  pub settled : AreSettled new.top gone
  pub raised : old.top ≤ new.top

abbrev pub Gave : Held → Held → List Event → List Event → Type 0
Gave old new before after = (gone : List Placed) × GaveThese old new before after gone

-- events for which there must be room: two for each that falls out
abbrev pub room_for : List Placed → ℕ → ℕ
room_for kept steps = 2 * min (length kept) steps

-- the gap between the place that was told last, if any was, and this one
abbrev pub gap_since : Option ℕ → ℕ → List Event
gap_since None place = []
gap_since (Some before) place = gap_between before place
