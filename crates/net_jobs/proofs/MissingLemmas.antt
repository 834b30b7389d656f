-- How many numbers can be missing among so many arrivals: between the least and the greatest number that arrived there are
-- at most 32,768 for each arrival.
use Rattle.std.proofs.Common.{◌≡◌, ℕ, ◌+◌, ◌-◌, ◌*◌, ◌<◌, ◌≤◌, max, nat_le, nat_lt, Bool, true, false, if◌then◌else◌, List, [], ◌∷◌, length, refl, sym, subst, arith}
use Rattle.std.specs.List.{AllByRecursion}
use Rattle.std.proofs.lemmas.List.Sums.{sum_by-cons, sum_by-append}
use Rattle.rtp_ends.specs.Numbers.{Heard, Placed, ahead_of, place_after, placed_after, placed}
use Rattle.rtp_ends.specs.Order.{put, put_all, ordered, Ascend}
use Rattle.rtp_ends.specs.Report.{packet_event, gap_between, events_after, events_of, arrival_report}
use Rattle.rtp_ends.proofs.OrderLemmas.{by_order, put-first, put-same, put-later}
use Rattle.rtp_ends.proofs.AscendLemmas.{ordered-ascends}
use Rattle.net_jobs.specs.Tell.{missing_of, missing_in}

-- ---- a place behind the others

record IsNear (greatest place : ℕ) : Type 0 where
  pub above : greatest < place + 32768
  pub within : place ≤ greatest + 32768

near_by : (greatest ahead : ℕ) → 65536 ≤ greatest → ahead < 65536 → (b : Bool) → nat_le ahead 32768 ≡ b
    → IsNear greatest (if b then greatest + ahead else greatest + ahead - 65536)
near_by greatest ahead high fits true test =
    let most : ahead ≤ 32768 = search (arith, test) in
    record { above = omega arith; within = omega arith }
near_by greatest ahead high fits false test =
    let some : 32768 < ahead = search (arith, test) in
    record { above = omega arith; within = omega arith }

near : (greatest seq : ℕ) → 65536 ≤ greatest → IsNear greatest (place_after greatest seq)
unfolding place_after
near greatest seq high =
    near_by greatest (ahead_of greatest seq) high (omega arith) (nat_le (ahead_of greatest seq) 32768) refl

-- ---- all places lie near the first one

record LiesIn (low high : ℕ) (a : Placed) : Type 0 where
  pub above : low < a.place + 32768
  pub within : a.place ≤ high

AllIn : ℕ → ℕ → List Placed → Type 0
AllIn low high xs = AllByRecursion (LiesIn low high) xs

AllIn-wider : (low high higher : ℕ) (xs : List Placed) → high ≤ higher → AllIn low high xs → AllIn low higher xs
unfolding AllIn
AllIn-wider low high higher [] more all = tt
AllIn-wider low high higher (x ∷ xs) more all =
    let within = all.0.within in
    (record { above = all.0.above; within = omega arith }, AllIn-wider low high higher xs more all.1)

all_after : (low greatest : ℕ) (hs : List Heard) → 65536 ≤ low → low ≤ greatest
    → AllIn low (greatest + 32768 * length hs) (placed_after greatest hs)
unfolding AllIn
all_after low greatest [] high more = tt
all_after low greatest (h ∷ hs) high more =
    let p = place_after greatest h.seq in
    let is = near greatest h.seq (omega arith) in
    let above = is.above in
    let within = is.within in (
      record { above = omega arith; within = omega arith },
      AllIn-wider low (max greatest p + 32768 * length hs) (greatest + 32768 * length (h ∷ hs)) (placed_after (max greatest p) hs)
          (omega arith) (all_after low (max greatest p) hs high (omega arith)),
    )

AllIn-put : (low high : ℕ) (a : Placed) (xs : List Placed) → LiesIn low high a → AllIn low high xs → AllIn low high (put a xs)
unfolding AllIn
AllIn-put low high a [] is all = (is, tt)
AllIn-put low high a (x ∷ xs) is all =
    by_order a.place x.place (AllIn low high (put a (x ∷ xs)))
    (λ less. subst (AllIn low high) (sym (put-first a x xs less)) (is, all))
    (λ same. subst (AllIn low high) (sym (put-same a x xs same)) all)
    (λ more. subst (AllIn low high) (sym (put-later a x xs more)) (all.0, AllIn-put low high a xs is all.1))

AllIn-put_all : (low high : ℕ) (kept xs : List Placed) → AllIn low high kept → AllIn low high xs → AllIn low high (put_all kept xs)
unfolding AllIn
AllIn-put_all low high kept [] are all = are
AllIn-put_all low high kept (x ∷ xs) are all =
    AllIn-put_all low high (put x kept) xs (AllIn-put low high x kept all.0 are) all.1

-- ---- what is missing between ascending places

gap_missing : (before next : ℕ) (b : Bool) → nat_lt (before + 1) next ≡ b → before < next
    → missing_in (gap_between before next) + before ≤ next
gap_missing before next b test less = grind (arith, test)

after_missing : (before high : ℕ) (xs : List Placed) → before ≤ high → AllByRecursion (λ b. before < b.place) xs → Ascend xs
    → AllByRecursion (λ b. b.place ≤ high) xs → missing_in (events_after before xs) + before ≤ high
after_missing before high [] below above asc within = omega arith
after_missing before high (x ∷ xs) below above asc within =
    let gap = gap_missing before x.place (nat_lt (before + 1) x.place) refl above.0 in
    let rest = after_missing x.place high xs within.0 asc.0 asc.1 within.1 in
    let parts = sum_by-append missing_of (gap_between before x.place) (packet_event x ∷ events_after x.place xs) in
    let first = sum_by-cons missing_of (packet_event x) (events_after x.place xs) in
    omega (arith, gap, rest, parts, first)

within_of : (low high : ℕ) (xs : List Placed) → AllIn low high xs → AllByRecursion (λ b. b.place ≤ high) xs
unfolding AllIn
within_of low high [] all = tt
within_of low high (x ∷ xs) all = (all.0.within, within_of low high xs all.1)

of_missing : (low high : ℕ) (xs : List Placed) → AllIn low high xs → Ascend xs → low ≤ high
    → missing_in (events_of xs) + low ≤ high + 32768
unfolding AllIn
of_missing low high [] all asc some = omega arith
of_missing low high (x ∷ xs) all asc some =
    let above = all.0.above in
    let rest = after_missing x.place high xs all.0.within asc.0 asc.1 (within_of low high xs all.1) in
    let first = sum_by-cons missing_of (packet_event x) (events_after x.place xs) in
    omega (arith, rest, first, above)

pub missing_most : (heard : List Heard) → missing_in (arrival_report heard) ≤ 32768 * length heard + 32768
unfolding AllIn
missing_most [] = omega arith
missing_most (h ∷ hs) =
    let first = 65536 + h.seq in
    let high = first + 32768 * length hs in
    let all : AllIn first high (placed (h ∷ hs)) =
    (record { above = omega arith; within = omega arith }, all_after first first hs (omega arith) (omega arith)) in
    let most = of_missing first high (ordered (placed (h ∷ hs))) (AllIn-put_all first high [] (placed (h ∷ hs)) tt all)
    (ordered-ascends (placed (h ∷ hs))) (omega arith) in
    omega (arith, most)
