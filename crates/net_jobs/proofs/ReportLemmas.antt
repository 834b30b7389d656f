-- What is written for all records of a capture is the text of the report.
use Rattle.std.proofs.Common.{◌≡◌, ℕ, ◌+◌, ◌<◌, ◌≤◌, max, if◌then◌else◌, List, [], ◌∷◌, ◌++◌, length, drop, None, refl, sym, ap, ◌∙◌, append-nil, append_assoc, lt-ltb, arith}
use Rattle.std.proofs.lemmas.Bool.{le-leb}
use Rattle.std.proofs.lemmas.List.{drop_at}
use Rattle.std.proofs.lemmas.Grind.{flat_map-append}
use Rattle.job_loop.specs.Shown.{Shown}
use Rattle.job_loop.specs.Meaning.{Run, goes, going, broke, adds, onward, runs, opened, closes, outcome}
use Rattle.job_loop.specs.declared.input_end.InputEnd.{InputEnd}
use Rattle.job_loop.specs.declared.input_end.InputEnd.TheVariants as ends
use Rattle.job_loop.proofs.RunLemmas.{runs-append}
use Rattle.rec_store.specs.declared.stop.StoreFault.{StoreFault}
use Rattle.dump_records.specs.declared.item.Item.{Item}
use Rattle.dump_records.specs.declared.item.Found.{Found}
use Rattle.dump_records.specs.declared.item.Found.TheVariants.{Record, Bad}
use Rattle.rtp_ends.specs.declared.event.Event.{Event}
use Rattle.rtp_ends.specs.declared.event.Arrival.{Arrival}
use Rattle.rtp_ends.specs.declared.event.Arrival.TheVariants.{New, Repeat}
use Rattle.rtp_ends.specs.Numbers.{Heard, Placed, placed_at, placed, greatest_of, next_place}
use Rattle.rtp_ends.specs.Order.{put, ordered}
use Rattle.rtp_ends.specs.Report.{events_of, settled, certain_events, arrival_report}
use Rattle.rtp_ends.specs.Holding.{AreSettled, events_since, last_of}
use Rattle.rtp_ends.specs.Receives.{open_of, answer_to}
use Rattle.rtp_ends.proofs.NumberLemmas.{placed-more, greatest_of-more}
use Rattle.rtp_ends.proofs.OrderLemmas.{put-behind}
use Rattle.rtp_ends.proofs.AscendLemmas.{ordered-ascends}
use Rattle.rtp_ends.proofs.EventLemmas.{events_since-append}
use Rattle.rtp_ends.proofs.HoldingLemmas.{AreSettled-weaker}
use Rattle.rtp_ends.proofs.CertainLemmas.{settled-less}
use Rattle.rtp_ends.proofs.ReceiverLemmas.{order-more}
use Rattle.rtp_ends.proofs.FrontLemmas.{split, settled-are, certain-stays, place_after-above}
use Rattle.net_jobs.specs.declared.stream.Asked.{Asked}
use Rattle.net_jobs.specs.declared.counts.Counts.{Counts}
use Rattle.net_jobs.specs.declared.events.Telling.{Telling}
use Rattle.net_jobs.specs.declared.stream.Passed.{Passed}
use Rattle.net_jobs.specs.declared.stream.Passed.TheVariants as sorts
use Rattle.net_jobs.specs.declared.capture_refusal.CaptureRefusal.{CaptureRefusal}
use Rattle.net_jobs.specs.Arrive.{RecordSort, passes, arrives, record_sort}
use Rattle.net_jobs.specs.Tell.{event_text, events_text, missing_in, counts_text}
use Rattle.net_jobs.specs.Receive.{Reception, begun, counted_passed, counted_arrival, after, behind, told_now, told_last, receive, receive_sort, receive_found, rest_text, capture_refusal, most_records}
use Rattle.net_jobs.specs.Received.{IsRecord, AreRecords, received_one, received_after, received, report_text}

-- ---- what was certain stays so with one arrival more

settled-behind : (greatest : ℕ) (told rest : List Placed) → AreSettled greatest told
    → settled greatest (told ++ rest) ≡ told ++ settled greatest rest
settled-behind greatest [] rest all = refl
settled-behind greatest (x ∷ xs) rest all =
    rw (le-leb (x.place + 32768) greatest all.0) (ap (λ l. x ∷ l) (settled-behind greatest xs rest all.1))

certain-more : (heard : List Heard) (x : Heard)
    → (rest : List Event) × (certain_events (heard ++ x ∷ []) ≡ certain_events heard ++ rest)
certain-more [] x = (certain_events (x ∷ []), refl)
certain-more (h ∷ hs) x =
    let heard = h ∷ hs in
    let all = ordered (placed heard) in
    let g = greatest_of (placed heard) in
    let place = next_place heard x.seq in
    let a = placed_at place x in
    let g' = greatest_of (placed (heard ++ x ∷ [])) in
    let told = settled g all in
    let kept = open_of g all in
    let old = settled-are g all in
    let top : g' ≡ max g place = ap greatest_of (placed-more heard x) ∙ greatest_of-more (placed heard) a in
    let above : g < place + 32768 = place_after-above g x.seq in
    let order : ordered (placed (heard ++ x ∷ [])) ≡ told ++ put a kept =
    order-more heard x place refl ∙ ap (put a) (split g all (ordered-ascends (placed heard)))
    ∙ put-behind a told kept (settled-less g place told above old) in
    let more = settled g' (put a kept) in (
      events_since (last_of None told) more,
      ap (λ l. events_of (settled g' l)) order
          ∙ ap events_of (settled-behind g' told (put a kept) (AreSettled-weaker g g' told (omega (arith, top)) old))
          ∙ events_since-append None told more,
    )

-- ---- the text of more events

text-behind : (telling : Telling) (was now rest : List Event) → now ≡ was ++ rest
    → events_text telling was ++ events_text telling (behind was now) ≡ events_text telling now
text-behind telling was now rest is =
    let more : behind was now ≡ rest = ap (drop (length was)) is ∙ drop_at was rest (length was) refl in
    ap (λ l. events_text telling was ++ events_text telling l) more
    ∙ sym (flat_map-append (event_text telling) was rest)
    ∙ ap (events_text telling) (sym is)

text-same : (telling : Telling) (heard : List Heard)
    → events_text telling (certain_events heard) ++ events_text telling (behind (certain_events heard) (certain_events heard))
    ≡ events_text telling (certain_events heard)
text-same telling heard =
    text-behind telling (certain_events heard) (certain_events heard) [] (sym (append-nil (certain_events heard)))

-- behind a record all that is certain is written
text-now : (telling : Telling) (k : Reception) (sort : RecordSort)
    → events_text telling (certain_events k.heard) ++ events_text telling (told_now k (after k sort))
    ≡ events_text telling (certain_events (after k sort).heard)
text-now telling k (passes p) = text-same telling k.heard
text-now telling k (arrives s x) =
    let more = certain-more k.heard x in
    text-behind telling (certain_events k.heard) (certain_events (k.heard ++ x ∷ [])) more.0 more.1

-- and at the end the whole report
text-last : (telling : Telling) (k : Reception)
    → events_text telling (certain_events k.heard) ++ rest_text telling k ≡ report_text telling k
text-last telling k =
    let stays = certain-stays k.heard [] in
    let all : arrival_report k.heard ≡ certain_events k.heard ++ stays.0 =
    ap arrival_report (sym (append-nil k.heard)) ∙ stays.1 in
    let closing = counts_text telling k.counts (missing_in (arrival_report k.heard)) in
    sym (append_assoc (events_text telling (certain_events k.heard)) (events_text telling (told_last k)) closing)
    ∙ ap (λ l. l ++ closing) (text-behind telling (certain_events k.heard) (arrival_report k.heard) stays.0 all)

-- ---- records one after the other

counted-records : (c : Counts) (answer : Arrival) → (counted_arrival c answer).records ≡ c.records + 1
counted-records c (New n) = refl
counted-records c (Repeat n) = refl

passed-records : (c : Counts) (p : Passed) → (counted_passed c p).records ≡ c.records + 1
passed-records c sorts.Rtcp = refl
passed-records c sorts.Cut = refl
passed-records c sorts.Bad = refl
passed-records c sorts.Other = refl

pub after-records : (k : Reception) (sort : RecordSort) → (after k sort).counts.records ≡ k.counts.records + 1
after-records k (passes p) = passed-records k.counts p
after-records k (arrives s x) = counted-records k.counts (answer_to k.heard x.seq)

-- what is written behind records that began with this
abbrev so_far : Telling → Reception → Run Reception CaptureRefusal
so_far telling k = going (events_text telling (certain_events k.heard)) k

-- one step, which goes on
step_on : (telling : Telling) (asked : Asked) (k : Reception) (r : Shown Item) (found : Found) → found ≡ r.item.found
    → IsRecord found → k.counts.records < most_records
    → onward (receive telling asked) (so_far telling k) r ≡ so_far telling (received_one asked k r.item.found r.bytes)
step_on telling asked k r (Record told) is record_is few =
    let sort = record_sort asked k.chosen told.kind r.bytes in
    ap (λ f. adds (events_text telling (certain_events k.heard)) (receive_found telling asked k f r.bytes)) (sym is)
    ∙ ap (λ b. adds (events_text telling (certain_events k.heard)) (if b then receive_sort telling k sort else goes [] k))
    (lt-ltb k.counts.records most_records few)
    ∙ ap (λ text. going text (after k sort)) (text-now telling k sort)
    ∙ ap (λ f. so_far telling (received_one asked k f r.bytes)) is
step_on telling asked k r (Bad fault) is record_is few = absurd record_is

pub one-records : (asked : Asked) (k : Reception) (found : Found) (bytes : List ℕ) → IsRecord found
    → (received_one asked k found bytes).counts.records ≡ k.counts.records + 1
one-records asked k (Record told) bytes is = after-records k (record_sort asked k.chosen told.kind bytes)
one-records asked k (Bad fault) bytes is = absurd is

runs_on : (telling : Telling) (asked : Asked) (k : Reception) (rs : List (Shown Item)) → AreRecords rs
    → k.counts.records + length rs ≤ most_records
    → runs (receive telling asked) (so_far telling k) rs ≡ so_far telling (received_after asked k rs)
runs_on telling asked k [] are few = refl
runs_on telling asked k (r ∷ rs) are few =
    let next = received_one asked k r.item.found r.bytes in
    let one = one-records asked k r.item.found r.bytes are.0 in
    ap (λ run. runs (receive telling asked) run rs) (step_on telling asked k r r.item.found refl are.0 (omega (arith, few)))
    ∙ runs_on telling asked next rs are.1 (omega (arith, few, one))

pub runs_whole : (telling : Telling) (asked : Asked) (rs : List (Shown Item)) → AreRecords rs → length rs ≤ most_records
    → runs (receive telling asked) (opened (receive telling asked)) rs ≡ so_far telling (received asked rs)
runs_whole telling asked rs are few = runs_on telling asked begun rs are (omega (arith, few))

pub closed_whole : (telling : Telling) (asked : Asked) (rs : List (Shown Item)) → AreRecords rs → length rs ≤ most_records
    → outcome (receive telling asked) rs ends.Closed ≡ going (report_text telling (received asked rs)) tt
closed_whole telling asked rs are few =
    ap (closes (receive telling asked) ends.Closed) (runs_whole telling asked rs are few)
    ∙ ap (λ text. going text tt) (text-last telling (received asked rs))

pub cut_whole : (telling : Telling) (asked : Asked) (rs : List (Shown Item)) (fault : StoreFault) → AreRecords rs
    → length rs ≤ most_records → outcome (receive telling asked) rs (ends.Cut fault)
    ≡ broke (report_text telling (received asked rs)) (capture_refusal (received asked rs) fault)
cut_whole telling asked rs fault are few =
    ap (closes (receive telling asked) (ends.Cut fault)) (runs_whole telling asked rs are few)
    ∙ ap (λ text. broke text (capture_refusal (received asked rs) fault)) (text-last telling (received asked rs))

step_bad : (telling : Telling) (asked : Asked) (k : Reception) (r : Shown Item) (fault : StoreFault) → r.item.found ≡ Bad fault
    → onward (receive telling asked) (so_far telling k) r ≡ broke (report_text telling k) (capture_refusal k fault)
step_bad telling asked k r fault is =
    ap (λ f. adds (events_text telling (certain_events k.heard)) (receive_found telling asked k f r.bytes)) is
    ∙ ap (λ text. broke text (capture_refusal k fault)) (text-last telling k)

pub refused_whole : (telling : Telling) (asked : Asked) (rs : List (Shown Item)) (r : Shown Item) (fault : StoreFault)
    (end : InputEnd StoreFault) → AreRecords rs → length rs ≤ most_records → r.item.found ≡ Bad fault
    → outcome (receive telling asked) (rs ++ r ∷ []) end
    ≡ broke (report_text telling (received asked rs)) (capture_refusal (received asked rs) fault)
refused_whole telling asked rs r fault end are few is =
    let m = receive telling asked in
    ap (closes m end) (runs-append m (opened m) rs (r ∷ [])
    ∙ ap (λ run. onward m run r) (runs_whole telling asked rs are few)
    ∙ step_bad telling asked (received asked rs) r fault is)
