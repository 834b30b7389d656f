-- What is kept behind records of a capture, and what is written for all of them.
use Rattle.std.specs.Prelude.{ℕ, List, [], ◌∷◌, ◌++◌}
use Rattle.std.specs.List.{AllByRecursion, sum_by}
use Rattle.job_loop.specs.Shown.{Shown}
use Rattle.dump_records.specs.declared.item.Item.{Item}
use Rattle.dump_records.specs.declared.item.Found.{Found}
use Rattle.dump_records.specs.declared.item.Found.TheVariants.{Record, Bad}
use Rattle.rtp_ends.specs.declared.event.Event.{Event}
use Rattle.rtp_ends.specs.declared.event.Event.TheVariants.{Packet, Gap}
use Rattle.rtp_ends.specs.Report.{arrival_report}
use Rattle.net_jobs.specs.declared.stream.Asked.{Asked}
use Rattle.net_jobs.specs.declared.events.Telling.{Telling}
use Rattle.net_jobs.specs.Arrive.{record_sort}
use Rattle.net_jobs.specs.Tell.{events_text, missing_in, counts_text}
use Rattle.net_jobs.specs.Receive.{Reception, begun, after}

-- it is a record, and the capture doesn't go wrong there
abbrev pub IsRecord : Found → Type 0
IsRecord (Record told) = Unit {0}
IsRecord (Bad fault) = ⊥

abbrev pub AreRecords : List (Shown Item) → Type 0
AreRecords rs = AllByRecursion (λ r. IsRecord r.item.found) rs

-- one record more
abbrev pub received_one : Asked → Reception → Found → List ℕ → Reception
received_one asked k (Record told) bytes = after k (record_sort asked k.chosen told.kind bytes)
received_one asked k (Bad fault) bytes = k

-- more records, one after the other
abbrev pub received_after : Asked → Reception → List (Shown Item) → Reception
received_after asked k [] = k
received_after asked k (r ∷ rs) = received_after asked (received_one asked k r.item.found r.bytes) rs

abbrev pub received : Asked → List (Shown Item) → Reception
received asked rs = received_after asked begun rs

-- the whole report, and what stands behind it
abbrev pub report_text : Telling → Reception → List ℕ
report_text telling k =
    events_text telling (arrival_report k.heard) ++ counts_text telling k.counts (missing_in (arrival_report k.heard))

-- packets among events
abbrev pub packet_in : Event → ℕ
packet_in (Packet number stamp payload) = 1
packet_in (Gap first count) = 0

abbrev pub packets_in : List Event → ℕ
packets_in events = sum_by packet_in events
