-- What is certain is a front of the report, whatever arrives later.
use Rattle.std.proofs.Common.{◌≡◌, ℕ, ◌+◌, ◌-◌, ◌<◌, ◌≤◌, max, nat_le, Bool, true, false, if◌then◌else◌, List, [], ◌∷◌, ◌++◌, None, refl, ap, ◌∙◌, ⊎_elim, lt-ltb, le-ltb, arith}
use Rattle.std.specs.List.{AllByRecursion}
use Rattle.std.proofs.lemmas.Bool.{cases_lt, le-leb, lt-leb}
use Rattle.rtp_ends.specs.declared.event.Event.{Event}
use Rattle.rtp_ends.specs.Numbers.{Heard, Placed, ahead_of, place_after, placed_at, placed_after, placed, greatest_of}
use Rattle.rtp_ends.specs.Order.{put, put_all, ordered, Ascend}
use Rattle.rtp_ends.specs.Report.{events_of, settled, certain_events, arrival_report}
use Rattle.rtp_ends.specs.ReportLaws.{IsCertainFront}
use Rattle.rtp_ends.specs.Holding.{AreSettled, events_since, last_of}
use Rattle.rtp_ends.specs.Receives.{open_of}
use Rattle.rtp_ends.proofs.NumberLemmas.{max_assoc}
use Rattle.rtp_ends.proofs.OrderLemmas.{put-behind}
use Rattle.rtp_ends.proofs.AscendLemmas.{ordered-ascends}
use Rattle.rtp_ends.proofs.EventLemmas.{events_since-append}
use Rattle.rtp_ends.proofs.CertainLemmas.{settled-less}

abbrev pub AreOpen : ℕ → List Placed → Type 0
AreOpen greatest arrivals = AllByRecursion (λ a. greatest < a.place + 32768) arrivals

-- the settled arrivals are a front of ascending ones

none-settled : (greatest least : ℕ) (xs : List Placed) → greatest < least + 32768
    → AllByRecursion (λ b. least < b.place) xs → settled greatest xs ≡ []
none-settled greatest least [] young above = refl
none-settled greatest least (x ∷ xs) young above =
    let more : least < x.place = above.0 in
    rw (lt-leb (x.place + 32768) greatest (omega arith)) (none-settled greatest least xs young above.1)

all-open : (greatest least : ℕ) (xs : List Placed) → greatest < least + 32768
    → AllByRecursion (λ b. least < b.place) xs → open_of greatest xs ≡ xs
all-open greatest least [] young above = refl
all-open greatest least (x ∷ xs) young above =
    let more : least < x.place = above.0 in
    rw (lt-ltb greatest (x.place + 32768) (omega arith)) (ap (λ l. x ∷ l) (all-open greatest least xs young above.1))

pub split : (greatest : ℕ) (xs : List Placed) → Ascend xs → xs ≡ settled greatest xs ++ open_of greatest xs
split greatest [] asc = refl
split greatest (x ∷ xs) asc =
    ⊎_elim
    (λ (young : greatest < x.place + 32768).
    rw (lt-leb (x.place + 32768) greatest young, lt-ltb greatest (x.place + 32768) young)
    (rw (none-settled greatest x.place xs young asc.0, all-open greatest x.place xs young asc.0) refl))
    (λ (old : x.place + 32768 ≤ greatest).
    rw (le-leb (x.place + 32768) greatest old, le-ltb greatest (x.place + 32768) old)
    (ap (λ l. x ∷ l) (split greatest xs asc.1)))
    (cases_lt greatest (x.place + 32768))

pub settled-are : (greatest : ℕ) (xs : List Placed) → AreSettled greatest (settled greatest xs)
settled-are greatest [] = tt
settled-are greatest (x ∷ xs) =
    ⊎_elim
    (λ (young : greatest < x.place + 32768).
    rw (lt-leb (x.place + 32768) greatest young) (settled-are greatest xs))
    (λ (old : x.place + 32768 ≤ greatest).
    rw (le-leb (x.place + 32768) greatest old) (old, settled-are greatest xs))
    (cases_lt greatest (x.place + 32768))

pub open-are : (greatest : ℕ) (xs : List Placed) → AreOpen greatest (open_of greatest xs)
open-are greatest [] = tt
open-are greatest (x ∷ xs) =
    ⊎_elim
    (λ (young : greatest < x.place + 32768).
    rw (lt-ltb greatest (x.place + 32768) young) (young, open-are greatest xs))
    (λ (old : x.place + 32768 ≤ greatest).
    rw (le-ltb greatest (x.place + 32768) old) (open-are greatest xs))
    (cases_lt greatest (x.place + 32768))

pub certain-front : (heard : List Heard)
    → IsCertainFront (greatest_of (placed heard)) (ordered (placed heard)) (certain_events heard)
certain-front heard =
    let greatest = greatest_of (placed heard) in
    let all = ordered (placed heard) in
    record {
      before = settled greatest all;
      behind = open_of greatest all;
      parts = split greatest all (ordered-ascends (placed heard));
      events_are = refl;
      all_settled = settled-are greatest all;
      none_settled = open-are greatest all;
    }

-- later arrivals are open

above_by : (greatest seq : ℕ) (b : Bool) → nat_le (ahead_of greatest seq) 32768 ≡ b
    → greatest < (if b then greatest + ahead_of greatest seq else greatest + ahead_of greatest seq - 65536) + 32768
above_by greatest seq true test = omega arith
above_by greatest seq false test =
    let far : 32768 < ahead_of greatest seq = search (arith, test) in
    omega arith

pub place_after-above : (greatest seq : ℕ) → greatest < place_after greatest seq + 32768
unfolding place_after
place_after-above greatest seq = above_by greatest seq (nat_le (ahead_of greatest seq) 32768) refl

later-open : (least greatest : ℕ) (hs : List Heard) → least ≤ greatest → AreOpen least (placed_after greatest hs)
later-open least greatest [] most = tt
later-open least greatest (h ∷ hs) most =
    let above : greatest < place_after greatest h.seq + 32768 = place_after-above greatest h.seq in
    (omega arith, later-open least (max greatest (place_after greatest h.seq)) hs (omega arith))

placed_after-append : (greatest : ℕ) (hs more : List Heard)
    → placed_after greatest (hs ++ more)
    ≡ placed_after greatest hs ++ placed_after (max greatest (greatest_of (placed_after greatest hs))) more
placed_after-append greatest [] more = ap (λ n. placed_after n more) (omega arith)
placed_after-append greatest (x ∷ xs) more =
    let p = place_after greatest x.seq in
    ap (λ l. placed_at p x ∷ l)
    (placed_after-append (max greatest p) xs more
    ∙ ap (λ n. placed_after (max greatest p) xs ++ placed_after n more)
    (max_assoc greatest p (greatest_of (placed_after (max greatest p) xs))))

put_all-append : (kept xs ys : List Placed) → put_all kept (xs ++ ys) ≡ put_all (put_all kept xs) ys
put_all-append kept [] ys = refl
put_all-append kept (x ∷ xs) ys = put_all-append (put x kept) xs ys

put_all-behind : (greatest : ℕ) (told kept ys : List Placed) → AreSettled greatest told → AreOpen greatest ys
    → put_all (told ++ kept) ys ≡ told ++ put_all kept ys
put_all-behind greatest told kept [] old young = refl
put_all-behind greatest told kept (y ∷ ys) old young =
    ap (λ l. put_all l ys) (put-behind y told kept (settled-less greatest y.place told young.0 old))
    ∙ put_all-behind greatest told (put y kept) ys old young.1

front-by : (greatest : ℕ) (xs ys : List Placed) → AreOpen greatest ys
    → ordered (xs ++ ys) ≡ settled greatest (ordered xs) ++ put_all (open_of greatest (ordered xs)) ys
front-by greatest xs ys young =
    put_all-append [] xs ys
    ∙ ap (λ l. put_all l ys) (split greatest (ordered xs) (ordered-ascends xs))
    ∙ put_all-behind greatest (settled greatest (ordered xs)) (open_of greatest (ordered xs)) ys
    (settled-are greatest (ordered xs)) young

-- the certain events are a front of the report of more arrivals
pub certain-stays : (heard more : List Heard)
    → (rest : List Event) × (arrival_report (heard ++ more) ≡ certain_events heard ++ rest)
certain-stays [] more = (arrival_report more, refl)
certain-stays (h ∷ hs) more =
    let first = 65536 + h.seq in
    let xs = placed (h ∷ hs) in
    let ys = placed_after (max first (greatest_of (placed_after first hs))) more in
    let told = settled (greatest_of xs) (ordered xs) in
    let kept = put_all (open_of (greatest_of xs) (ordered xs)) ys in (
      events_since (last_of None told) kept,
      ap (λ l. events_of (ordered (placed_at first h ∷ l))) (placed_after-append first hs more)
          ∙ ap events_of (front-by (greatest_of xs) xs ys (later-open (greatest_of xs) (greatest_of xs) more (omega arith)))
          ∙ events_since-append None told kept,
    )
