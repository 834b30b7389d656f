-- The laws of multistream packets as payloads.
use Rattle.std.proofs.Common.{◌≡◌, ◌⊎◌, inl, inr, ℕ, ◌+◌, ◌<◌, ◌≤◌, List, ◌++◌, length, refl, ap, arith}
use Rattle.std.proofs.lemmas.Bool.{cases_lt}
use Rattle.job_loop.specs.Shown.{Shown}
use Rattle.opus_packet.specs.PacketPrefix.{AreBytes}
use Rattle.pack_records.specs.Payloads.{StaysEarly, IsShowing, IsReading}
use Rattle.stream_records.specs.declared.item.StreamsItem.{StreamsItem}
use Rattle.stream_records.specs.Holds.{Choices, Holds, ShowsEarly}
use Rattle.stream_records.specs.HoldsLaws.{stand_sizes, holds_same, early_longer}
use Rattle.stream_records.specs.RawLaws.{reads_open}
use Rattle.stream_records.specs.StreamReading.{DecidedEarly, streams_decide, streams_show, streams_reading}

pub shows_early : (count start range : ℕ) (part : List ℕ) (e : DecidedEarly count start range part)
    → ShowsEarly count start range part e.shown
shows_early count start range part e = record { holds = e.holds; early = e.early }

-- a fault that is decided has some bytes
early_some : (count start range : ℕ) (part : List ℕ) → DecidedEarly count start range part → 0 < length part
early_some count start range part e =
    let b = e.holds.broken in
    let early = e.early in
    omega (arith, early, stand_sizes b.first part b.rest b.stand)

early_stays : (count start range : ℕ) (part more : List ℕ) → AreBytes (part ++ more)
    → (e : DecidedEarly count start range part) → StaysEarly (streams_decide count) start range part more e
early_stays count start range part more are e =
    let l = early_longer count start range part more e.shown are (shows_early count start range part e) in
    record { longer = record { shown = e.shown; holds = l.holds; early = l.early }; same = refl }

-- a record's place, where nothing was decided before its end
holds_place : (c : Choices) (start range : ℕ) (bytes : List ℕ) (r : Shown StreamsItem) → Holds c start range bytes r
    → (DecidedEarly c.streams start range bytes → ⊥) → r.item.place ≡ start + length bytes
holds_place c start range bytes r (inl p) never = ap (λ (x : Shown StreamsItem). x.item.place) p.shows
holds_place c start range bytes r (inr (inr p)) never = ap (λ (x : Shown StreamsItem). x.item.place) p.shows
holds_place c start range bytes r (inr (inl p)) never = go (cases_lt p.fault.place (length p.broken.rest))
  where
    go : (p.fault.place < length p.broken.rest) ⊎ (length p.broken.rest ≤ p.fault.place) → r.item.place ≡ start + length bytes
    go (inl early) = absurd (never record { shown = r; holds = p; early = early })
    go (inr late) =
        let place = ap (λ (x : Shown StreamsItem). x.item.place) p.shows in
        let sizes = stand_sizes p.broken.first bytes p.broken.rest p.broken.stand in
        omega (arith, place, sizes, late)

pub streams_showing : (c : Choices) → IsShowing (streams_show c) (λ r. r.item.place)
streams_showing c = record {
  holds_once = holds_same c;
  early_some = early_some c.streams;
  early_stays = early_stays c.streams;
  early_holds = λ start range part are early. inr (inl early.holds);
  holds_place = holds_place c;
  lost_place = λ start range. refl;
}

pub streams_lawful : IsReading streams_reading
streams_lawful = record {
  showing = streams_showing;
  undecided = λ p begun start range part reads early. reads_open p begun start range part early.shown reads
      (shows_early p.streams start range part early);
}
