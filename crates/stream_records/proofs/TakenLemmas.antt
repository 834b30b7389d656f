-- What a record that is read in pieces holds, once it is decided.
use Rattle.std.proofs.Common.{◌≡◌, ℕ, ◌+◌, ◌<◌, ◌≤◌, ◌⊎◌, inl, inr, List, [], ◌∷◌, ◌++◌, length, take, drop, map, flat_map, min, Option, Some, None, Ok, Err, refl, ap, sym, subst, ◌∙◌, arith, length-append, length-take-le, take-append-drop}
use Rattle.std.proofs.lemmas.List.{drop-take, take-take}
use Rattle.std.proofs.Math.Seq.{take-append-add}
use Rattle.job_loop.specs.Shown.{Shown}
use Rattle.opus_packet.specs.declared.fault.Fault.{Fault}
use Rattle.opus_packet.specs.PacketFault.{packet_fault}
use Rattle.opus_packet.specs.PacketPrefix.{AreBytes}
use Rattle.opus_packet.specs.Read.{PacketRead}
use Rattle.opus_packet.specs.SelfGrammar.{IsSelfDelimited}
use Rattle.opus_packet.proofs.BytesLemmas.{AreBytes-take}
use Rattle.opus_packet.proofs.PrefixLemmas.{packet_fault-longest, IsLongestPrefix-whole}
use Rattle.opus_self.proofs.SelfPrefixLemmas.{self_delimited_fault-whole}
use Rattle.opus_feed.specs.declared.framing.Framing.{Framing}
use Rattle.opus_feed.specs.declared.framing.Framing.TheVariants.{Whole, SelfDelimited}
use Rattle.opus_feed.specs.declared.padding.Padding.{Padding}
use Rattle.opus_feed.specs.declared.step.Step.TheVariants.{More}
use Rattle.opus_feed.specs.Tails.{tail_kept}
use Rattle.opus_feed.specs.Feeds.{Stands, Ended}
use Rattle.opus_feed.specs.Answers.{Answers, Finishes, IsRead}
use Rattle.opus_feed.specs.Packets.{IsNone, fault_of}
use Rattle.opus_feed.proofs.ReadingLemmas.{reading_answer}
use Rattle.opus_multi.specs.Streams.{SpelledStream, StandFirst, AreStreams}
use Rattle.opus_multi.specs.Durations.{HaveOneDuration, IsUnequalAt}
use Rattle.opus_multi.specs.Multistream.{durations_of}
use Rattle.opus_multi.specs.MultistreamFault.{framing_of}
use Rattle.opus_multi.specs.StreamParts.{read_with}
use Rattle.opus_multi.specs.Forms.{kept_of, kept_self_of, kept_multistream}
use Rattle.opus_multi.proofs.StreamsLemmas.{stand_bytes}
use Rattle.opus_multi.proofs.ReadLemmas.{lt_or_ge, framing_more, framing_past, told_one, told_other}
use Rattle.opus_multi.proofs.WriteLemmas.{forms_push, forms_map}
use Rattle.pack_records.specs.Early.{IsEarly}
use Rattle.pack_records.specs.EarlyLaws.{early_more, early_none, early_front}
use Rattle.pack_records.specs.Payloads.{IsDecided}
use Rattle.stream_records.specs.declared.item.StreamsFound.TheVariants.{Packets, Broken, Unequal}
use Rattle.stream_records.specs.declared.item.StreamsItem.{StreamsItem}
use Rattle.stream_records.specs.declared.durations.Other.{Other}
use Rattle.stream_records.specs.declared.durations.Durations.{Durations}
use Rattle.stream_records.specs.declared.stream_pieces.StreamPieces.{StreamPieces}
use Rattle.stream_records.specs.Holds.{Choices, record_of, sizes_of, held_as, spelling_of, Holds}
use Rattle.stream_records.specs.HoldsLaws.{stand_sizes}
use Rattle.stream_records.specs.Told.{stream_in, BeginsBehind, Told}
use Rattle.stream_records.specs.StreamPieces.{shown_by, choices_of, whole_in, Reads, HasRefused, HasAdded, LastShows, HasLast}
use Rattle.stream_records.specs.StreamReading.{DecidedEarly, streams_reading}
use Rattle.stream_records.proofs.TurnLemmas.{multi, count_whole, told_added, whole_push}

-- ---- no packet can follow

-- streams that stand first in all bytes stand first in a front that has them
stand_take : (ss : List SpelledStream) (n : ℕ) (bytes rest : List ℕ) → n ≤ length rest → StandFirst ss bytes rest
    → StandFirst ss (take (sizes_of ss + n) bytes) (take n rest)
stand_take [] n bytes rest fits h = let same : 0 + n ≡ n = omega arith in ap (λ k. take k bytes) same ∙ ap (take n) h
stand_take (s ∷ ss) n bytes rest fits h =
    let sizes = stand_sizes (s ∷ ss) bytes rest h in
    let all = s.size + sizes_of ss + n in
    let same : all ≡ s.size + (sizes_of ss + n) = omega arith in
    let long : length (take all bytes) ≡ all = length-take-le all bytes (omega (arith, sizes, fits)) in (
      record {
        within = omega (arith, long);
        spelled = subst (IsSelfDelimited s.value s.shape s.tail) (sym (take-take s.size all bytes (omega arith))) h.0.spelled;
      },
      subst (λ l. StandFirst ss l (take n rest))
          (sym (ap (λ k. drop s.size (take k bytes)) same ∙ drop-take s.size (sizes_of ss + n) bytes))
          (stand_take ss n (drop s.size bytes) rest fits h.1),
    )

-- the record that stands is one that is decided
decided_by : (p new : StreamPieces) (start range : ℕ) (bytes : List ℕ) → choices_of new ≡ choices_of p
    → (e : DecidedEarly p.streams start range bytes) → e.shown ≡ shown_by new
    → (shown_by new).item.place ≡ start + length bytes → IsDecided streams_reading new start range bytes
decided_by p new start range bytes same e is at =
    let d = subst (λ n. (e : DecidedEarly n start range bytes) × (e.shown ≡ shown_by new))
    (sym (ap (λ (c : Choices). c.streams) same)) (e, is) in
    record {
      early = d.0;
      shown = λ own. sym d.1;
      place = ap (λ (x : Shown StreamsItem). x.item.place) d.1 ∙ at;
    }

pub bad_taken : (p new : StreamPieces) (f : Fault) (start range place count : ℕ) (h piece : List ℕ)
    → choices_of new ≡ choices_of p → HasRefused p start f (length h) (h ++ piece) → place ≡ p.begun + f.place + 1
    → count + (start + length h) ≡ place
    → shown_by new ≡ record_of start place range (Broken (length (whole_in p)) p.begun f) [] []
    → IsDecided streams_reading new start range (h ++ take count piece)
bad_taken p new f start range place count h piece same r at count_is shown =
    let framing = framing_of p.streams (length r.first) in
    let g = r.refuses.fault_is in
    let high = r.high in
    let began = r.begun_is in
    let rest_are = stand_bytes r.first (h ++ piece) r.rest r.stand r.are_bytes in
    let early : IsEarly framing r.rest = subst (λ (g : Fault). g.place < length r.rest) g high in
    let front = take (f.place + 1) r.rest in
    let size : length front ≡ f.place + 1 = length-take-le (f.place + 1) r.rest (omega (arith, high)) in
    let front_are = AreBytes-take (f.place + 1) r.rest rest_are in
    let soon : IsEarly framing front =
    subst (λ (g : Fault). IsEarly framing (take (g.place + 1) r.rest)) (sym g) (early_front framing r.rest rest_are early) in
    let is : f ≡ fault_of framing front =
    g ∙ ap (fault_of framing) (sym (take-append-drop (f.place + 1) r.rest))
    ∙ early_more framing front (drop (f.place + 1) r.rest) front_are soon in
    let parts : take (sizes_of r.first + (f.place + 1)) (h ++ piece) ≡ h ++ take count piece =
    ap (λ n. take n (h ++ piece)) (omega (arith, count_is, at, began)) ∙ take-append-add h piece count in
    let stand : StandFirst r.first (h ++ take count piece) front =
    subst (λ l. StandFirst r.first l front) parts (stand_take r.first (f.place + 1) (h ++ piece) r.rest (omega (arith, high)) r.stand) in
    let sizes = stand_sizes r.first (h ++ take count piece) front stand in
    let where_is : place ≡ start + sizes_of r.first + min (f.place + 1) (length front) = omega (arith, at, began, size) in
    let bad : DecidedEarly p.streams start range (h ++ take count piece) =
    record {
      shown = shown_by new;
      holds = record {
        stream = length r.first;
        fault = f;
        broken = record {
          first = r.first;
          rest = front;
          counted = refl;
          within = r.within;
          stand = stand;
          none = early_none framing front front_are soon;
          fault_is = is;
        };
        shows = shown
            ∙ ap (λ n. record_of start n range (Broken (length (whole_in p)) p.begun f) [] []) where_is
            ∙ ap (λ k. record_of start (start + sizes_of r.first + min (f.place + 1) (length front)) range (Broken k p.begun f) [] []) r.counted
            ∙ ap (λ b. record_of start (start + sizes_of r.first + min (f.place + 1) (length front)) range (Broken (length r.first) b f) [] []) began;
      };
      early = omega (arith, size);
    } in
    decided_by p new start range (h ++ take count piece) same bad refl
    (ap (λ (x : Shown StreamsItem). x.item.place) shown ∙ omega (arith, at, began, size, sizes))

-- ---- no byte follows

part_place : (framing : Framing) (rest : List ℕ) → AreBytes rest → Answers framing rest More
    → (fault_of framing rest).place ≡ length rest
part_place Whole rest are can = IsLongestPrefix-whole rest (packet_fault rest).place (packet_fault-longest rest are) can
part_place SelfDelimited rest are can = self_delimited_fault-whole rest can.0

-- the stream that has begun doesn't read
pub ended_broken : (old : StreamPieces) (f : Fault) (start range at : ℕ) (h : List ℕ) (r : Shown StreamsItem)
    → ((b : List ℕ) → Stands old.feed b → Finishes old.feed.framing b (Err f)) → start + length h ≡ at
    → r ≡ record_of start at range (Broken (length (whole_in old)) old.begun f) [] [] → Reads old start h
    → Holds (choices_of old) start range h r
ended_broken old f start range at h r answer size shown reads =
    let framing = framing_of old.streams (length reads.first) in
    let e = subst (λ g. Finishes g reads.rest (Err f)) reads.framing (answer reads.rest reads.stands) in
    let (none, is) = finished framing reads.rest f e in
    let began = reads.begun_is in
    let rest_are = stand_bytes reads.first h reads.rest reads.stand reads.are_bytes in
    let place = part_place framing reads.rest rest_are
    (subst (λ g. Answers g reads.rest More) reads.framing (reading_answer old.feed reads.rest reads.stands reads.reading)) in
    let where_is : at ≡ start + sizes_of reads.first + min (f.place + 1) (length reads.rest) =
    omega (arith, size, stand_sizes reads.first h reads.rest reads.stand, place, ap (λ g. g.place) is) in
    inr (inl record {
      stream = length reads.first;
      fault = f;
      broken = record {
        first = reads.first;
        rest = reads.rest;
        counted = refl;
        within = reads.within;
        stand = reads.stand;
        none = none;
        fault_is = is;
      };
      shows = shown
          ∙ ap (λ n. record_of start n range (Broken (length (whole_in old)) old.begun f) [] []) where_is
          ∙ ap (λ k. record_of start (start + sizes_of reads.first + min (f.place + 1) (length reads.rest)) range (Broken k old.begun f) [] []) (count_whole old reads.first reads.whole_are)
          ∙ ap (λ b. record_of start (start + sizes_of reads.first + min (f.place + 1) (length reads.rest)) range (Broken (length reads.first) b f) [] []) began;
    })
  where
    finished : (g : Framing) (rest : List ℕ) (f : Fault) → Finishes g rest (Err f) → IsNone g rest × (f ≡ fault_of g rest)
    finished Whole rest f e = e
    finished SelfDelimited rest f e = e

-- an undelimited one alone can end so
last_framing : (p : StreamPieces) (start : ℕ) (h : List ℕ) → (r : Reads p start h) → Finishes p.feed.framing r.rest (Ok tt)
    → (p.feed.framing ≡ Whole) × (length r.first + 1 ≡ p.streams)
last_framing p start h r answer = go (lt_or_ge (length r.first + 1) p.streams)
  where
    go : (length r.first + 1 < p.streams) ⊎ (p.streams ≤ length r.first + 1) → (p.feed.framing ≡ Whole) × (length r.first + 1 ≡ p.streams)
    go (inl more) =
        let self = r.framing ∙ framing_more p.streams (length r.first) more in
        let (v, s, size, begins) = subst (λ f. Finishes f r.rest (Ok tt)) self answer in
        absurd ((subst (λ f. Answers f r.rest More) self (reading_answer p.feed r.rest r.stands r.reading)).1 v s size begins)
    go (inr past) = let within = r.within in (r.framing ∙ framing_past p.streams (length r.first) past, omega (arith, within, past))

-- the forms of the first ones and of the last
kept_last : (padding : Padding) (ss : List SpelledStream) (s : SpelledStream)
    → flat_map (λ s. kept_self_of (held_as padding s)) ss ++ kept_of (held_as padding s)
    ≡ kept_multistream (map (held_as padding) (ss ++ s ∷ []))
kept_last padding ss s =
    sym (forms_map kept_self_of kept_of (held_as padding) (ss ++ s ∷ [])
    ∙ forms_push (λ s. kept_self_of (held_as padding s)) (λ s. kept_of (held_as padding s)) ss s)

all_kept : (padding : Padding) (ss : List SpelledStream) (s : SpelledStream) (p : PacketRead) (mid all : StreamPieces)
    → mid.kept.items ≡ flat_map (λ s. kept_self_of (held_as padding s)) ss → p ≡ read_with padding s
    → (added : HasAdded Whole mid all) → p ≡ added.packet
    → all.kept.items ≡ kept_multistream (map (held_as padding) (ss ++ s ∷ []))
all_kept padding ss s p mid all are is added same =
    rw (added.kept_is, are, sym same, is) (kept_last padding ss s)

-- what was told of all streams

told_same : (d : Durations) (start : ℕ) (ss : List SpelledStream) → Told d start ss → d.other ≡ None
    → HaveOneDuration (durations_of ss)
unfolding multi
told_same d start ss told none = told_one (multi d) (durations_of ss) told.says (ap stream_in none)

told_differs : (d : Durations) (start : ℕ) (ss : List SpelledStream) (o : Other) → Told d start ss → d.other ≡ Some o
    → IsUnequalAt (durations_of ss) o.stream
unfolding multi
told_differs d start ss o told some = told_other (multi d) o.stream (durations_of ss) told.says (ap stream_in some)

pub ended_last : (old mid : StreamPieces) (start range at : ℕ) (h : List ℕ) (r : Shown StreamsItem)
    → mid.streams ≡ old.streams → whole_in mid ≡ whole_in old → mid.kept.items ≡ old.kept.items
    → mid.durations ≡ old.durations → mid.begun ≡ old.begun → mid.feed.framing ≡ old.feed.framing
    → mid.feed.padding ≡ old.feed.padding → ((b : List ℕ) → Stands old.feed b → Ended mid.feed b)
    → ((b : List ℕ) → Stands old.feed b → Finishes old.feed.framing b (Ok tt)) → start + length h ≡ at
    → HasLast mid start range at r → Reads old start h → Holds (choices_of old) start range h r
ended_last old mid start range at h r streams whole kept durations begun framing padding ended answer size last reads =
    go last.all.durations.other refl last.shows
  where
    last_is : (old.feed.framing ≡ Whole) × (length reads.first + 1 ≡ old.streams)
    last_is = last_framing old start h reads (answer reads.rest reads.stands)

    p : PacketRead
    p = last.added.packet

    read : IsRead Whole old.feed.padding reads.rest p
    read =
        subst (λ d. IsRead Whole d reads.rest p) padding
        (subst (λ f. IsRead f mid.feed.padding reads.rest p) (framing ∙ last_is.0)
        (last.added.ended reads.rest (ended reads.rest reads.stands)))

    s : SpelledStream
    s = record { value = p.value; shape = p.shape; size = p.size; tail = read.0 }

    is : p ≡ read_with old.feed.padding s
    is = read_is old.feed.padding p read.0 read.3
      where
        read_is : (d : Padding) (p : PacketRead) (q : List ℕ) → p.tail ≡ tail_kept d q
            → p ≡ read_with d (record { value = p.value; shape = p.shape; size = p.size; tail = q })
        read_is d p q tail = rw (sym tail) refl

    ss : List SpelledStream
    ss = reads.first ++ s ∷ []

    counted : length ss ≡ old.streams
    counted = length-append reads.first (s ∷ []) ∙ last_is.1

    are : AreStreams ss h
    are = record {
      front = reads.first;
      last = s;
      rest = reads.rest;
      streams_are = refl;
      stand = reads.stand;
      ends = record { size_is = read.2; spelled = read.1 };
    }

    told : Told last.all.durations start ss
    told =
        told_added mid.durations last.all.durations start (length (whole_in mid)) mid.begun old.feed.padding reads.first s p
        (ap length whole ∙ count_whole old reads.first reads.whole_are) (begun ∙ reads.begun_is) is last.added.told
        last.added.added (subst (λ d. Told d start reads.first) (sym durations) reads.told)

    go : (o : Option Other) → last.all.durations.other ≡ o → LastShows o last.all start range at r
        → Holds (choices_of old) start range h r
    go None none shows = inl record {
      streams = ss;
      counted = counted;
      are = are;
      duration = told_same last.all.durations start ss told none;
      shows = shows
          ∙ ap (λ n. record_of start n range Packets (whole_in last.all) last.all.kept.items) (sym size)
          ∙ ap (λ l. record_of start (start + length h) range Packets l last.all.kept.items)
          (whole_push old.feed.padding reads.first s p mid last.all Whole (whole ∙ reads.whole_are) is last.added refl)
          ∙ ap (λ l. record_of start (start + length h) range Packets (map (spelling_of old.feed.padding) ss) l)
          (all_kept old.feed.padding reads.first s p mid last.all (kept ∙ reads.kept_is) is last.added refl);
    }
    go (Some o) some shows =
        let begins : o.start ≡ start + sizes_of (take o.stream ss) = subst (BeginsBehind start ss) some told.begins in
        inr (inr record {
          stream = o.stream;
          unequal = record {
            streams = ss;
            counted = counted;
            are = are;
            unequal = told_differs last.all.durations start ss o told some;
          };
          shows = shows ∙ ap (λ n. record_of start n range (Unequal o.stream o.start) [] []) (sym size)
              ∙ ap (λ n. record_of start (start + length h) range (Unequal o.stream n) [] []) begins;
        })
