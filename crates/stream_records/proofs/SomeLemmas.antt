-- Each input has records.
use Rattle.std.proofs.Common.{◌≡◌, ◌⊎◌, inl, inr, ℕ, ◌≤◌, ◌<◌, List, [], ◌∷◌, length, take, Option, None, refl, ap, arith}
use Rattle.std.proofs.lemmas.Bool.{cases_lt}
use Rattle.job_loop.specs.Shown.{Shown}
use Rattle.opus_packet.specs.declared.fault.Fault.{Fault}
use Rattle.opus_packet.specs.PacketPrefix.{AreBytes}
use Rattle.opus_multi.specs.Streams.{SpelledStream, AreStreams}
use Rattle.opus_multi.specs.Durations.{HaveOneDuration, IsUnequalAt}
use Rattle.opus_multi.specs.Multistream.{durations_of}
use Rattle.opus_multi.specs.MultistreamFault.{IsBroken}
use Rattle.opus_multi.proofs.OnlyLemmas.{broken_none}
use Rattle.pack_records.specs.declared.cut.Cut.{Cut}
use Rattle.pack_records.proofs.StoreParts.{AllHold, AllDecided, store_has_records}
use Rattle.stream_records.specs.declared.item.StreamsItem.{StreamsItem}
use Rattle.stream_records.specs.Demo.{DemoEnds}
use Rattle.stream_records.specs.Holds.{Choices, sizes_of, packets_record, broken_record, unequal_record, Holds}
use Rattle.stream_records.specs.HoldsLaws.{same_fault}
use Rattle.stream_records.specs.Raw.{RawEnds}
use Rattle.stream_records.specs.StreamReading.{DecidedEarly, streams_show}
use Rattle.stream_records.proofs.StreamKinds.{StreamKinds, all_read, one_broken, stream_kinds, duration_kinds}

streams_hold : (c : Choices) → 1 ≤ c.streams → AllHold (streams_show c)
streams_hold c some start range bytes are = go (stream_kinds c.streams bytes some are)
  where
    last : (ss : List SpelledStream) → length ss ≡ c.streams → AreStreams ss bytes
        → HaveOneDuration (durations_of ss) ⊎ ((k : ℕ) × IsUnequalAt (durations_of ss) k)
        → (r : Shown StreamsItem) × Holds c start range bytes r
    last ss counted all (inl one) = (
      packets_record c.padding start range ss (length bytes),
      inl record { streams = ss; counted = counted; are = all; duration = one; shows = refl },
    )
    last ss counted all (inr (k, unequal)) = (
      unequal_record start range k (sizes_of (take k ss)) (length bytes),
      inr (inr record {
        stream = k;
        unequal = record { streams = ss; counted = counted; are = all; unequal = unequal };
        shows = refl;
      }),
    )

    go : StreamKinds c.streams bytes → (r : Shown StreamsItem) × Holds c start range bytes r
    go (all_read ss counted all) = last ss counted all (duration_kinds (durations_of ss))
    go (one_broken k f b) = (
      broken_record start range k f (sizes_of b.first) (length b.rest),
      inr (inl record { stream = k; fault = f; broken = b; shows = refl }),
    )

-- one fault of the bytes is decided early, or none is
broken_late : (count start range k : ℕ) (f : Fault) (part : List ℕ) (b : IsBroken count part k f)
    → length b.rest ≤ f.place → DecidedEarly count start range part → ⊥
broken_late count start range k f part b late e =
    let s = same_fault count part k e.holds.stream f e.holds.fault b e.holds.broken in
    let place = ap (λ (g : Fault). g.place) s.fault in
    let size = ap (λ (l : List ℕ). length l) s.rest in
    let early = e.early in
    omega (arith, late, early, place, size)

streams_decided : (c : Choices) → 1 ≤ c.streams → AllDecided (streams_show c)
streams_decided c some part are = go (stream_kinds c.streams part some are)
  where
    by_place : (k : ℕ) (f : Fault) (b : IsBroken c.streams part k f)
        → (f.place < length b.rest) ⊎ (length b.rest ≤ f.place)
        → ((start range : ℕ) → DecidedEarly c.streams start range part)
        ⊎ ((start range : ℕ) → DecidedEarly c.streams start range part → ⊥)
    by_place k f b (inl early) = inl (λ start range. record {
      shown = broken_record start range k f (sizes_of b.first) (length b.rest);
      holds = record { stream = k; fault = f; broken = b; shows = refl };
      early = early;
    })
    by_place k f b (inr late) = inr (λ start range. broken_late c.streams start range k f part b late)

    go : StreamKinds c.streams part
        → ((start range : ℕ) → DecidedEarly c.streams start range part)
        ⊎ ((start range : ℕ) → DecidedEarly c.streams start range part → ⊥)
    go (all_read ss counted all) =
        inr (λ start range e. broken_none c.streams e.holds.stream e.holds.fault part ss e.holds.broken all counted)
    go (one_broken k f b) = by_place k f b (cases_lt f.place (length b.rest))

pub raw_has_records : (c : Choices) (x : List ℕ) → 1 ≤ c.streams → AreBytes x
    → (rs : List (Shown StreamsItem)) × RawEnds c x rs None
raw_has_records c x some are =
    let (r, holds) = streams_hold c some 0 0 x are in
    (r ∷ [], record { are_bytes = are; shown = r; holds = holds; records_are = refl; cut_is = refl })

pub demo_has_records : (c : Choices) (x : List ℕ) → 1 ≤ c.streams → AreBytes x
    → (rs : List (Shown StreamsItem)) × (cut : Option Cut) × DemoEnds c x rs cut
demo_has_records c x some = store_has_records (streams_show c) (streams_hold c some) (streams_decided c some) x
