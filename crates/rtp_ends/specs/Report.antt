-- What is told of arrivals: this project's own report.
use Rattle.std.specs.Prelude.{ℕ, ◌+◌, ◌-◌, nat_lt, nat_le, if◌then◌else◌, List, [], ◌∷◌, ◌++◌}
use Rattle.std.specs.List.{filter}
use Rattle.rtp_ends.specs.declared.event.Event.{Event}
use Rattle.rtp_ends.specs.declared.event.Event.TheVariants.{Packet, Gap}
use Rattle.rtp_ends.specs.Numbers.{Heard, Placed, number_at, placed, greatest_of}
use Rattle.rtp_ends.specs.Order.{ordered}

abbrev pub packet_event : Placed → Event
packet_event a = Packet (number_at a.place) a.stamp a.payload

-- the numbers that didn't arrive between two places
abbrev pub gap_between : ℕ → ℕ → List Event
gap_between before next =
    if nat_lt (before + 1) next then Gap (number_at (before + 1)) (next - (before + 1)) ∷ [] else []

-- the events of ascending arrivals behind a place
abbrev pub events_after : ℕ → List Placed → List Event
events_after before [] = []
events_after before (a ∷ rest) = gap_between before a.place ++ packet_event a ∷ events_after a.place rest

-- the events of ascending arrivals, from the first to the last
abbrev pub events_of : List Placed → List Event
events_of [] = []
events_of (a ∷ rest) = packet_event a ∷ events_after a.place rest

-- Over all numbers from the least to the greatest that arrived: a packet for each that arrived, as it arrived first, and a
-- gap for each run that didn't.
abbrev pub arrival_report : List Heard → List Event
arrival_report heard = events_of (ordered (placed heard))

-- the arrivals behind which no place can come any more, where this is the greatest one
abbrev pub settled : ℕ → List Placed → List Placed
settled greatest arrivals = filter (λ a. nat_le (a.place + 32768) greatest) arrivals

-- The report up to its last packet whose number is at most the greatest one less 32,768: no later arrival changes it.
abbrev pub certain_events : List Heard → List Event
certain_events heard = events_of (settled (greatest_of (placed heard)) (ordered (placed heard)))
