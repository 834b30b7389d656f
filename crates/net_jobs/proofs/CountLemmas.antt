-- The counts of records: each record is of one sort, and the packets counted are those of the report.
use Rattle.std.proofs.Common.{◌≡◌, ℕ, ◌+◌, Bool, true, false, nat_lt, if◌then◌else◌, List, [], ◌∷◌, ◌++◌, length, length-append, refl, sym, ap, ◌∙◌, arith}
use Rattle.std.proofs.lemmas.List.Sums.{sum_by-cons, sum_by-append}
use Rattle.job_loop.specs.Shown.{Shown}
use Rattle.dump_records.specs.declared.item.Item.{Item}
use Rattle.dump_records.specs.declared.item.Found.{Found}
use Rattle.dump_records.specs.declared.item.Found.TheVariants.{Record, Bad}
use Rattle.rtp_ends.specs.declared.event.Arrival.TheVariants.{New, Repeat}
use Rattle.rtp_ends.specs.Numbers.{Heard, Placed, number_at, placed_at, placed, next_place}
use Rattle.rtp_ends.specs.Order.{ordered}
use Rattle.rtp_ends.specs.Slots.{has_place}
use Rattle.rtp_ends.specs.Report.{packet_event, gap_between, events_after, events_of, arrival_report}
use Rattle.rtp_ends.proofs.OrderLemmas.{has_place-ordered}
use Rattle.rtp_ends.proofs.AscendLemmas.{ordered-ascends, put-held, length-put}
use Rattle.rtp_ends.proofs.ReceiverLemmas.{order-more}
use Rattle.net_jobs.specs.declared.stream.Asked.{Asked}
use Rattle.net_jobs.specs.declared.counts.Counts.{Counts}
use Rattle.net_jobs.specs.declared.stream.Passed.{Passed}
use Rattle.net_jobs.specs.declared.stream.Passed.TheVariants as sorts
use Rattle.net_jobs.specs.Arrive.{RecordSort, passes, arrives, record_sort}
use Rattle.net_jobs.specs.Receive.{Reception, begun, IsSum, counted_arrival, after}
use Rattle.net_jobs.specs.Received.{AreRecords, received_one, received_after, received, packet_in, packets_in}
use Rattle.net_jobs.proofs.ReportLemmas.{one-records}

-- ---- packets of a report

gap_packets : (before next : ℕ) (b : Bool) → nat_lt (before + 1) next ≡ b → packets_in (gap_between before next) ≡ 0
gap_packets before next true test = rw test refl
gap_packets before next false test = rw test refl

after_packets : (before : ℕ) (xs : List Placed) → packets_in (events_after before xs) ≡ length xs
after_packets before [] = refl
after_packets before (x ∷ xs) =
    let gap = gap_packets before x.place (nat_lt (before + 1) x.place) refl in
    let rest = after_packets x.place xs in
    let parts = sum_by-append packet_in (gap_between before x.place) (packet_event x ∷ events_after x.place xs) in
    let first = sum_by-cons packet_in (packet_event x) (events_after x.place xs) in
    omega (arith, gap, rest, parts, first)

of_packets : (xs : List Placed) → packets_in (events_of xs) ≡ length xs
of_packets [] = refl
of_packets (x ∷ xs) =
    let rest = after_packets x.place xs in
    let first = sum_by-cons packet_in (packet_event x) (events_after x.place xs) in
    omega (arith, rest, first)

report_packets : (heard : List Heard) → packets_in (arrival_report heard) ≡ length (ordered (placed heard))
report_packets heard = of_packets (ordered (placed heard))

-- ---- what is kept

pub record AreCounted (k : Reception) : Type 0 where
  pub sum : IsSum k.counts
  pub packets : k.counts.packets ≡ packets_in (arrival_report k.heard)
  pub arrivals : k.counts.repeats + k.counts.packets ≡ length k.heard

-- one arrival more, by whether its place is there
arrival_counted : (k : Reception) (x : Heard) (c : Counts) (b : Bool) → has_place (next_place k.heard x.seq) (placed k.heard) ≡ b
    → c ≡ counted_arrival k.counts (if b then Repeat (number_at (next_place k.heard x.seq)) else New (number_at (next_place k.heard x.seq)))
    → AreCounted k → (c.packets ≡ packets_in (arrival_report (k.heard ++ x ∷ []))) × IsSum c
    × (c.repeats + c.packets ≡ length (k.heard ++ x ∷ []))
arrival_counted k x c true has is are =
    let place = next_place k.heard x.seq in
    let all = ordered (placed k.heard) in
    let same = put-held (placed_at place x) all (ordered-ascends (placed k.heard)) (has_place-ordered place (placed k.heard) ∙ has) in
    let now = report_packets (k.heard ++ x ∷ []) ∙ ap (λ (l : List Placed). length l) (order-more k.heard x place refl ∙ same) in
    let before = report_packets k.heard in
    let size = length-append k.heard (x ∷ []) in
    let packets = ap (λ (c : Counts). c.packets) is in
    let repeats = ap (λ (c : Counts). c.repeats) is in (
      packets ∙ are.packets ∙ before ∙ sym now,
      rw is (omega (arith, are.sum)),
      omega (arith, packets, repeats, size, are.arrivals),
    )
arrival_counted k x c false free is are =
    let place = next_place k.heard x.seq in
    let all = ordered (placed k.heard) in
    let more = length-put (placed_at place x) all (has_place-ordered place (placed k.heard) ∙ free) in
    let now = report_packets (k.heard ++ x ∷ []) ∙ ap (λ (l : List Placed). length l) (order-more k.heard x place refl) in
    let before = report_packets k.heard in
    let size = length-append k.heard (x ∷ []) in
    let packets = ap (λ (c : Counts). c.packets) is in
    let repeats = ap (λ (c : Counts). c.repeats) is in (
      omega (arith, packets, are.packets, before, now, more),
      rw is (omega (arith, are.sum)),
      omega (arith, packets, repeats, size, are.arrivals),
    )

-- one record more that is passed over
passed_counted : (k : Reception) (p : Passed) → AreCounted k → AreCounted (after k (passes p))
passed_counted k sorts.Rtcp are = record { sum = omega (arith, are.sum); packets = are.packets; arrivals = are.arrivals }
passed_counted k sorts.Cut are = record { sum = omega (arith, are.sum); packets = are.packets; arrivals = are.arrivals }
passed_counted k sorts.Bad are = record { sum = omega (arith, are.sum); packets = are.packets; arrivals = are.arrivals }
passed_counted k sorts.Other are = record { sum = omega (arith, are.sum); packets = are.packets; arrivals = are.arrivals }

after_counted : (k : Reception) (sort : RecordSort) → AreCounted k → AreCounted (after k sort)
after_counted k (passes p) are = passed_counted k p are
after_counted k (arrives s x) are =
    let counted = arrival_counted k x (after k (arrives s x)).counts (has_place (next_place k.heard x.seq) (placed k.heard)) refl
    refl are in
    record { sum = counted.1; packets = counted.0; arrivals = counted.2 }

one_counted : (asked : Asked) (k : Reception) (found : Found) (bytes : List ℕ) → AreCounted k
    → AreCounted (received_one asked k found bytes)
one_counted asked k (Record told) bytes are = after_counted k (record_sort asked k.chosen told.kind bytes) are
one_counted asked k (Bad fault) bytes are = are

all_counted : (asked : Asked) (k : Reception) (rs : List (Shown Item)) → AreCounted k → AreCounted (received_after asked k rs)
all_counted asked k [] are = are
all_counted asked k (r ∷ rs) are =
    all_counted asked (received_one asked k r.item.found r.bytes) rs (one_counted asked k r.item.found r.bytes are)

begun_counted : AreCounted begun
begun_counted = record { sum = refl; packets = refl; arrivals = refl }

pub received_counted : (asked : Asked) (rs : List (Shown Item)) → AreCounted (received asked rs)
received_counted asked rs = all_counted asked begun rs begun_counted

all_records : (asked : Asked) (k : Reception) (rs : List (Shown Item)) → AreRecords rs
    → (received_after asked k rs).counts.records ≡ k.counts.records + length rs
all_records asked k [] are = omega arith
all_records asked k (r ∷ rs) are =
    let rest = all_records asked (received_one asked k r.item.found r.bytes) rs are.1 in
    let one = one-records asked k r.item.found r.bytes are.0 in
    omega (arith, rest, one)

pub received_records : (asked : Asked) (rs : List (Shown Item)) → AreRecords rs
    → (received asked rs).counts.records ≡ length rs
received_records asked rs are = all_records asked begun rs are ∙ omega arith
