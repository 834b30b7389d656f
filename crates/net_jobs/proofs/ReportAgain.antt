-- What arrives of a capture that was sent, in the order of its places, and the report of it.
use Rattle.std.proofs.Common.{◌≡◌, ℕ, ◌+◌, ◌-◌, ◌%◌, ◌<◌, ◌≤◌, ◌^◌, max, nat_lt, Bool, true, false, List, [], ◌∷◌, ◌++◌, length, Option, None, Some, refl, sym, ap, ◌∙◌, append-nil, append_assoc, length-append, arith}
use Rattle.std.specs.List.{AllByRecursion}
use Rattle.std.proofs.lemmas.Grind.{flat_map-append}
use Rattle.opus_packet.specs.Value.{PacketValue}
use Rattle.opus_packet.specs.Canonical.{canonical}
use Rattle.rec_store.specs.DemoStore.{demo_record}
use Rattle.rec_store.specs.declared.dump_opening.DumpHead.{DumpHead}
use Rattle.rtp_packet.specs.declared.packet.RtpFields.{RtpFields}
use Rattle.rtp_ends.specs.Numbers.{Heard, Placed, place_after, placed_at, placed_after, placed}
use Rattle.rtp_ends.specs.Order.{put, put_all, ordered}
use Rattle.rtp_ends.specs.Report.{packet_event, gap_between, events_after, events_of, arrival_report}
use Rattle.rtp_ends.specs.Sent.{fields_behind}
use Rattle.rtp_ends.proofs.NumberLemmas.{place_after-is, IsPlaceAfter-one}
use Rattle.rtp_ends.proofs.OrderLemmas.{put-behind}
use Rattle.net_jobs.specs.declared.events.Telling.TheVariants.{Store}
use Rattle.net_jobs.specs.Tell.{lost_records, event_text, events_text}
use Rattle.net_jobs.specs.Again.{store_again, HasShortRuns, BeginsAndEnds}
use Rattle.net_jobs.proofs.TellLemmas.{lost_records-parts}

-- the head that is written
unfoldable pub written_head : DumpHead
written_head = record { seconds = 0; micros = 0; address = 0; port = 0 }

-- ---- what arrives

unfoldable pub heard_at : RtpFields → List (Option PacketValue) → PacketValue → Heard
heard_at first before v = record {
  seq = (fields_behind first before).seq;
  stamp = (fields_behind first before).stamp;
  payload = canonical v;
}

-- the packets of more records behind these ones
unfoldable pub heard_behind : RtpFields → List (Option PacketValue) → List (Option PacketValue) → List Heard
heard_behind first before [] = []
heard_behind first before (None ∷ rs) = heard_behind first (before ++ None ∷ []) rs
heard_behind first before (Some v ∷ rs) = heard_at first before v ∷ heard_behind first (before ++ Some v ∷ []) rs

-- ---- where it is placed

-- the places of more records behind so many ones, where the first one has this place
placed_from : ℕ → RtpFields → List (Option PacketValue) → List (Option PacketValue) → List Placed
placed_from place first before [] = []
placed_from place first before (None ∷ rs) = placed_from (place + 1) first (before ++ None ∷ []) rs
placed_from place first before (Some v ∷ rs) =
    placed_at place (heard_at first before v) ∷ placed_from (place + 1) first (before ++ Some v ∷ []) rs

next_place_is : (greatest seq place : ℕ) → 65536 ≤ greatest → greatest < place → place ≤ greatest + 32768 → place % 65536 ≡ seq
    → place_after greatest seq ≡ place
next_place_is greatest seq place high more near same =
    IsPlaceAfter-one greatest seq (place_after greatest seq) place (place_after-is greatest seq high (omega (arith, same)))
    (record { same = same; above = omega arith; within = near })

placed_behind : (greatest losses : ℕ) (first : RtpFields) (before rs : List (Option PacketValue)) → first.seq < 2 ^ 16
    → greatest + losses + 1 ≡ 65536 + first.seq + length before → 65536 ≤ greatest → losses ≤ 32767 → HasShortRuns losses rs
    → placed_after greatest (heard_behind first before rs) ≡ placed_from (greatest + losses + 1) first before rs
unfolding heard_at heard_behind placed_from
placed_behind greatest losses first before [] fits at high few runs = refl
placed_behind greatest losses first before (None ∷ rs) fits at high few runs =
    let size = length-append before (None ∷ []) in
    placed_behind greatest (losses + 1) first (before ++ None ∷ []) rs fits (omega (arith, at, size)) high
    (omega (arith, runs.0)) runs.1
    ∙ ap (λ n. placed_from n first (before ++ None ∷ []) rs) (omega arith)
placed_behind greatest losses first before (Some v ∷ rs) fits at high few runs =
    let place = greatest + losses + 1 in
    let size = length-append before (Some v ∷ []) in
    let is : place_after greatest (heard_at first before v).seq ≡ place =
    next_place_is greatest ((first.seq + length before) % 65536) place high (omega arith) (omega (arith, few)) (omega (arith, at)) in
    ap (λ n. placed_at n (heard_at first before v) ∷ placed_after (max greatest n) (heard_behind first (before ++ Some v ∷ []) rs)) is
    ∙ ap (λ n. placed_at place (heard_at first before v) ∷ placed_after n (heard_behind first (before ++ Some v ∷ []) rs)) (omega arith)
    ∙ ap (λ l. placed_at place (heard_at first before v) ∷ l)
    (placed_behind place 0 first (before ++ Some v ∷ []) rs fits (omega (arith, at, size)) (omega arith) (omega arith) runs
    ∙ ap (λ n. placed_from n first (before ++ Some v ∷ []) rs) (omega arith))

-- ---- that is its order

below_more : (low place : ℕ) (xs : List Placed) (a : Placed) → a.place ≡ place → low ≤ place
    → AllByRecursion (λ b. b.place < low) xs → AllByRecursion (λ b. b.place < place + 1) (xs ++ a ∷ [])
below_more low place [] a is more all = (omega (arith, is), tt)
below_more low place (x ∷ xs) a is more all =
    let first : x.place < low = all.0 in
    (omega arith, below_more low place xs a is more all.1)

in_order : (place : ℕ) (told : List Placed) (first : RtpFields) (before rs : List (Option PacketValue))
    → AllByRecursion (λ b. b.place < place) told
    → put_all told (placed_from place first before rs) ≡ told ++ placed_from place first before rs
unfolding placed_from
in_order place told first before [] below = sym (append-nil told)
in_order place told first before (None ∷ rs) below =
    in_order (place + 1) told first (before ++ None ∷ []) rs (below_on place told below)
  where
    below_on : (place : ℕ) (xs : List Placed) → AllByRecursion (λ b. b.place < place) xs
        → AllByRecursion (λ b. b.place < place + 1) xs
    below_on place [] all = tt
    below_on place (x ∷ xs) all = let first : x.place < place = all.0 in (omega arith, below_on place xs all.1)
in_order place told first before (Some v ∷ rs) below =
    let a = placed_at place (heard_at first before v) in
    let rest = placed_from (place + 1) first (before ++ Some v ∷ []) rs in
    ap (λ l. put_all l rest) (ap (put a) (sym (append-nil told)) ∙ put-behind a told [] below)
    ∙ in_order (place + 1) (told ++ a ∷ []) first (before ++ Some v ∷ []) rs
    (below_more place place told a refl (omega arith) below)
    ∙ append_assoc told (a ∷ []) rest

-- ---- its text

gap_text : (before losses : ℕ) (b : Bool) → nat_lt (before + 1) (before + losses + 1) ≡ b
    → events_text Store (gap_between before (before + losses + 1)) ≡ lost_records losses
gap_text before losses true test =
    let count : before + losses + 1 - (before + 1) ≡ losses = omega arith in
    rw test (append-nil (lost_records (before + losses + 1 - (before + 1))) ∙ ap lost_records count)
gap_text before losses false test =
    let none : losses ≡ 0 = search (arith, test) in
    rw test (ap lost_records (sym none))

text_again : (greatest losses : ℕ) (first : RtpFields) (before rs : List (Option PacketValue)) → HasShortRuns losses rs
    → events_text Store (events_after greatest (placed_from (greatest + losses + 1) first before rs))
    ≡ lost_records losses ++ store_again rs
unfolding placed_from heard_at
text_again greatest losses first before [] runs = ap (λ n. lost_records n ++ []) (sym runs)
text_again greatest losses first before (None ∷ rs) runs =
    ap (λ n. events_text Store (events_after greatest (placed_from n first (before ++ None ∷ []) rs)))
    {x = greatest + losses + 1 + 1} {y = greatest + (losses + 1) + 1} (omega arith)
    ∙ text_again greatest (losses + 1) first (before ++ None ∷ []) rs runs.1
    ∙ ap (λ l. l ++ store_again rs) (lost_records-parts losses 1)
    ∙ append_assoc (lost_records losses) (lost_records 1) (store_again rs)
    ∙ ap (λ l. lost_records losses ++ (l ++ store_again rs)) (append-nil (demo_record 0 []))
text_again greatest losses first before (Some v ∷ rs) runs =
    let place = greatest + losses + 1 in
    let a = placed_at place (heard_at first before v) in
    let later = events_after place (placed_from (place + 1) first (before ++ Some v ∷ []) rs) in
    let rest : events_text Store later ≡ store_again rs =
    ap (λ n. events_text Store (events_after place (placed_from n first (before ++ Some v ∷ []) rs)))
    {x = place + 1} {y = place + 0 + 1} (omega arith)
    ∙ text_again place 0 first (before ++ Some v ∷ []) rs runs in
    flat_map-append (event_text Store) (gap_between greatest place) (packet_event a ∷ later)
    ∙ ap (λ l. l ++ events_text Store (packet_event a ∷ later)) (gap_text greatest losses (nat_lt (greatest + 1) place) refl)
    ∙ ap (λ l. lost_records losses ++ (demo_record 0 (canonical v) ++ l)) rest

pub report_again : (first : RtpFields) (rs : List (Option PacketValue)) → first.seq < 2 ^ 16 → BeginsAndEnds rs
    → events_text Store (arrival_report (heard_behind first [] rs)) ≡ store_again rs
unfolding heard_behind heard_at placed_from
report_again first [] fits runs = refl
report_again first (None ∷ rs) fits runs = absurd runs
report_again first (Some v ∷ rs) fits runs =
    let h = heard_at first [] v in
    let place = 65536 + first.seq in
    let whole : (first.seq + 0) % 65536 ≡ first.seq = omega arith in
    let places : placed (h ∷ heard_behind first (Some v ∷ []) rs)
    ≡ placed_at place h ∷ placed_from (place + 0 + 1) first (Some v ∷ []) rs =
    ap (λ n. placed_at (65536 + n) h ∷ placed_after (65536 + n) (heard_behind first (Some v ∷ []) rs)) whole
    ∙ ap (λ l. placed_at place h ∷ l)
    (placed_behind place 0 first (Some v ∷ []) rs fits (omega arith) (omega arith) (omega arith) runs) in
    let order : ordered (placed (h ∷ heard_behind first (Some v ∷ []) rs))
    ≡ placed_at place h ∷ placed_from (place + 0 + 1) first (Some v ∷ []) rs =
    ap ordered places ∙ in_order (place + 0 + 1) (placed_at place h ∷ []) first (Some v ∷ []) rs (omega arith, tt) in
    ap (λ l. events_text Store (events_of l)) order
    ∙ ap (λ l. demo_record 0 (canonical v) ++ l) (text_again place 0 first (Some v ∷ []) rs runs)
