-- The jobs recv and replay: the packets of one stream of a capture arrive at a receiver, and what it tells is written as soon
-- as it is certain, the rest at the end.
use Rattle.std.specs.Prelude.{◌≡◌, ℕ, ◌+◌, ◌^◌, nat_lt, if◌then◌else◌, List, [], ◌∷◌, ◌++◌, length, drop, Option, None, Some}
use Rattle.job_loop.specs.Shown.{Shown}
use Rattle.job_loop.specs.Meaning.{Meaning, Step, goes, stops}
use Rattle.job_loop.specs.declared.input_end.InputEnd.{InputEnd}
use Rattle.job_loop.specs.declared.input_end.InputEnd.TheVariants as ends
use Rattle.rec_store.specs.declared.stop.StoreFault.{StoreFault}
use Rattle.dump_records.specs.declared.item.Item.{Item}
use Rattle.dump_records.specs.declared.item.Found.{Found}
use Rattle.dump_records.specs.declared.item.Found.TheVariants.{Record, Bad}
use Rattle.rtp_ends.specs.declared.event.Event.{Event}
use Rattle.rtp_ends.specs.declared.event.Arrival.{Arrival}
use Rattle.rtp_ends.specs.declared.event.Arrival.TheVariants.{New, Repeat}
use Rattle.rtp_ends.specs.Numbers.{Heard}
use Rattle.rtp_ends.specs.Report.{arrival_report, certain_events}
use Rattle.rtp_ends.specs.Receives.{answer_to}
use Rattle.net_jobs.specs.declared.stream.Stream.{Stream}
use Rattle.net_jobs.specs.declared.stream.Asked.{Asked}
use Rattle.net_jobs.specs.declared.stream.Passed.{Passed}
use Rattle.net_jobs.specs.declared.stream.Passed.TheVariants as sorts
use Rattle.net_jobs.specs.declared.counts.Counts.{Counts}
use Rattle.net_jobs.specs.declared.events.Telling.{Telling}
use Rattle.net_jobs.specs.declared.events.Telling.TheVariants.{Store, Lines}
use Rattle.net_jobs.specs.declared.capture_refusal.CaptureRefusal.{CaptureRefusal}
use Rattle.net_jobs.specs.Arrive.{RecordSort, passes, arrives, record_sort}
use Rattle.net_jobs.specs.Tell.{events_text, missing_in, counts_text}

-- ---- what is kept

-- how many records were taken, and of each sort; the stream that was chosen; and what arrived
pub record Reception : Type 0 where
  pub counts : Counts
  pub chosen : Option Stream
  pub heard : List Heard

abbrev pub no_counts : Counts
no_counts = record { records = 0; rtcp = 0; cut = 0; bad = 0; other = 0; repeats = 0; packets = 0 }

abbrev pub begun : Reception
begun = record { counts = no_counts; chosen = None; heard = [] }

-- each record is of one sort
abbrev pub IsSum : Counts → Type 0
IsSum c = c.rtcp + c.cut + c.bad + c.other + c.repeats + c.packets ≡ c.records

-- one record more, of this sort; an arrival is a repeat where its number arrived before
abbrev pub counted_passed : Counts → Passed → Counts
counted_passed c sorts.Rtcp = record c { records = c.records + 1; rtcp = c.rtcp + 1 }
counted_passed c sorts.Cut = record c { records = c.records + 1; cut = c.cut + 1 }
counted_passed c sorts.Bad = record c { records = c.records + 1; bad = c.bad + 1 }
counted_passed c sorts.Other = record c { records = c.records + 1; other = c.other + 1 }

abbrev pub counted_arrival : Counts → Arrival → Counts
counted_arrival c (New number) = record c { records = c.records + 1; packets = c.packets + 1 }
counted_arrival c (Repeat number) = record c { records = c.records + 1; repeats = c.repeats + 1 }

abbrev pub counted : Counts → List Heard → RecordSort → Counts
counted c heard (passes p) = counted_passed c p
counted c heard (arrives s x) = counted_arrival c (answer_to heard x.seq)

-- the first arrival chooses its stream
abbrev pub chosen_by : Option Stream → RecordSort → Option Stream
chosen_by (Some chosen) sort = Some chosen
chosen_by None (passes p) = None
chosen_by None (arrives s x) = Some s

abbrev pub heard_by : List Heard → RecordSort → List Heard
heard_by heard (passes p) = heard
heard_by heard (arrives s x) = heard ++ x ∷ []

abbrev pub after : Reception → RecordSort → Reception
after k sort = record {
  counts = counted k.counts k.heard sort;
  chosen = chosen_by k.chosen sort;
  heard = heard_by k.heard sort;
}

-- ---- what is told

-- what stands behind the first ones, of events that begin with them
abbrev pub behind : List Event → List Event → List Event
behind first events = drop (length first) events

-- the events that are certain now and weren't before; and those that are left at the end
abbrev pub told_now : Reception → Reception → List Event
told_now k now = behind (certain_events k.heard) (certain_events now.heard)

abbrev pub told_last : Reception → List Event
told_last k = behind (certain_events k.heard) (arrival_report k.heard)

-- the rest of the report, and what stands behind it
abbrev pub rest_text : Telling → Reception → List ℕ
rest_text telling k =
    events_text telling (told_last k) ++ counts_text telling k.counts (missing_in (arrival_report k.heard))

abbrev pub capture_refusal : Reception → StoreFault → CaptureRefusal
capture_refusal k fault = record { index = k.counts.records; fault = fault }

-- ---- the jobs

-- so many records are taken; no input within the limit has more
abbrev pub most_records : ℕ
most_records = 2 ^ 40

abbrev pub receive_sort : Telling → Reception → RecordSort → Step Reception CaptureRefusal
receive_sort telling k sort = goes (events_text telling (told_now k (after k sort))) (after k sort)

abbrev pub receive_found : Telling → Asked → Reception → Found → List ℕ → Step Reception CaptureRefusal
receive_found telling asked k (Record told) bytes =
    if nat_lt k.counts.records most_records
    then receive_sort telling k (record_sort asked k.chosen told.kind bytes)
    else goes [] k
receive_found telling asked k (Bad fault) bytes = stops (rest_text telling k) (capture_refusal k fault)

abbrev pub receive_end : Telling → Reception → InputEnd StoreFault → Step (Unit {0}) CaptureRefusal
receive_end telling k ends.Closed = goes (rest_text telling k) tt
receive_end telling k (ends.Cut fault) = stops (rest_text telling k) (capture_refusal k fault)
receive_end telling k ends.Past = goes [] tt

-- Where the capture goes wrong or is cut, the report of what arrived before is written whole.
abbrev pub receive : Telling → Asked → Meaning (Shown Item) Reception StoreFault CaptureRefusal
receive telling asked = record {
  opening = [];
  start = begun;
  step = λ k r. receive_found telling asked k r.item.found r.bytes;
  finish = receive_end telling;
}

-- a store of the packets, with lost records where packets are missing
abbrev pub recv : Asked → Meaning (Shown Item) Reception StoreFault CaptureRefusal
recv asked = receive Store asked

-- a line for each event, and a line of counts
abbrev pub replay : Asked → Meaning (Shown Item) Reception StoreFault CaptureRefusal
replay asked = receive Lines asked
