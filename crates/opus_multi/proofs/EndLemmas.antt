-- What a feed of multistream packets stands for when no more bytes come.
use Rattle.std.proofs.Common.{◌≡◌, ℕ, ◌+◌, ◌<◌, ◌≤◌, ◌⊎◌, inl, inr, List, [], ◌∷◌, ◌++◌, length, map, Some, Result, Ok, Err, refl, ap, sym, subst, ◌∙◌, arith, length-append}
use Rattle.std.specs.Bool.{⊤}
use Rattle.std.proofs.lemmas.List.{length-map}
use Rattle.opus_packet.specs.declared.fault.Fault.{Fault}
use Rattle.opus_packet.specs.Value.{duration_of}
use Rattle.opus_packet.specs.Read.{PacketRead}
use Rattle.opus_feed.specs.declared.framing.Framing.TheVariants.{Whole}
use Rattle.opus_feed.specs.declared.padding.Padding.{Padding}
use Rattle.opus_feed.specs.declared.step.Step.TheVariants.{More}
use Rattle.opus_feed.specs.Tails.{tail_kept}
use Rattle.opus_feed.specs.Feeds.{Stands, Ended}
use Rattle.opus_feed.specs.Answers.{Answers, Finishes, IsRead}
use Rattle.opus_feed.proofs.ReadingLemmas.{reading_answer}
use Rattle.opus_multi.specs.declared.fault.MultiFault.{MultiFault}
use Rattle.opus_multi.specs.declared.fault.MultiFault.TheVariants.{Stream, Unequal, NoMemory}
use Rattle.opus_multi.specs.declared.multi_feed.MultiFeed.{MultiFeed}
use Rattle.opus_multi.specs.declared.part.Part.{Part}
use Rattle.opus_multi.specs.Streams.{SpelledStream, StandFirst, IsLastStream, AreStreams}
use Rattle.opus_multi.specs.declared.durations.Durations.{Durations}
use Rattle.opus_multi.specs.Durations.{HaveOneDuration, IsUnequalAt}
use Rattle.opus_multi.specs.Multistream.{durations_of}
use Rattle.opus_multi.specs.MultistreamFault.{framing_of}
use Rattle.opus_multi.specs.Told.{Told}
use Rattle.opus_multi.specs.StreamParts.{read_with, part_of}
use Rattle.opus_multi.specs.MultiStands.{Reads, HasBroken}
use Rattle.opus_multi.specs.MultiAnswers.{IsSomeMultistream}
use Rattle.opus_multi.specs.MultiTurns.{SameChoices, HasLast, LastReads, EndReads}
use Rattle.opus_multi.proofs.ReadLemmas.{lt_or_ge, framing_more, framing_past, told_one, told_other, unequal_within, length-durations}
use Rattle.opus_multi.proofs.TurnLemmas.{count_parts, parts_push, told_push}

-- the stream that has begun doesn't read
pub ends_broken : (old new : MultiFeed) (k : ℕ) (f : Fault) (bytes : List ℕ) → k ≡ length old.parts.items
    → new.streams ≡ old.streams → new.parts ≡ old.parts → new.feed.padding ≡ old.feed.padding
    → ((b : List ℕ) → Stands old.feed b → Finishes old.feed.framing b (Err f)) → Reads old bytes → HasBroken new k f bytes
ends_broken old new k f bytes is streams parts padding answer r =
    let counted : length r.first ≡ k = sym (count_parts old r.first r.parts_are) ∙ sym is in
    let same : old.feed.framing ≡ framing_of new.streams k = r.framing ∙ rw (streams, counted) refl in
    let e = answer r.rest r.stands in
    record {
      broken = record {
        first = r.first;
        rest = r.rest;
        counted = counted;
        within = rw (streams, sym counted) r.within;
        stand = r.stand;
        none = rw (sym same) e.0;
        fault_is = rw (sym same) e.1;
      };
      parts_are = rw (parts, padding) r.parts_are;
    }

-- it reads

-- an undelimited one alone can end so
last_framing : (m : MultiFeed) (bytes : List ℕ) → (r : Reads m bytes) → Finishes m.feed.framing r.rest (Ok tt)
    → (m.feed.framing ≡ Whole) × (length r.first + 1 ≡ m.streams)
last_framing m bytes r answer = go (lt_or_ge (length r.first + 1) m.streams)
  where
    go : (length r.first + 1 < m.streams) ⊎ (m.streams ≤ length r.first + 1) → (m.feed.framing ≡ Whole) × (length r.first + 1 ≡ m.streams)
    go (inl more) =
        let self = r.framing ∙ framing_more m.streams (length r.first) more in
        let (v, s, size, begins) = subst (λ f. Finishes f r.rest (Ok tt)) self answer in
        absurd ((subst (λ f. Answers f r.rest More) self (reading_answer m.feed r.rest r.stands r.reading)).1 v s size begins)
    go (inr past) = let within = r.within in (r.framing ∙ framing_past m.streams (length r.first) past, omega (arith, within, past))

-- all streams are whole
record AllWhole (count : ℕ) (padding : Padding) (p : PacketRead) (bytes : List ℕ) (parts : List Part) (d : Durations) : Type 0 where
  first : List SpelledStream
  last : SpelledStream
  rest : List ℕ
  counted : length (first ++ last ∷ []) ≡ count
  stand : StandFirst first bytes rest
  ends : IsLastStream last rest
  is : p ≡ read_with padding last
  parts_are : parts ≡ map (part_of padding) first
  told : Told d (durations_of first)

read_is : (padding : Padding) (p : PacketRead) (q : List ℕ) → p.tail ≡ tail_kept padding q
    → p ≡ read_with padding (record { value = p.value; shape = p.shape; size = p.size; tail = q })
read_is padding p q tail = rw (sym tail) refl

all_whole : (old mid : MultiFeed) (p : PacketRead) (bytes : List ℕ) → mid.feed.framing ≡ old.feed.framing
    → ((b : List ℕ) → Stands old.feed b → Ended mid.feed b)
    → ((b : List ℕ) → Stands old.feed b → Finishes old.feed.framing b (Ok tt))
    → ((b : List ℕ) → Ended mid.feed b → IsRead mid.feed.framing mid.feed.padding b p)
    → mid.feed.padding ≡ old.feed.padding → Reads old bytes
    → AllWhole old.streams old.feed.padding p bytes old.parts.items old.durations
all_whole old mid p bytes framing ended answer read padding r =
    let (whole, all) = last_framing old bytes r (answer r.rest r.stands) in
    let (q, spelled, size, tail) = subst (λ f. IsRead f mid.feed.padding r.rest p) (framing ∙ whole) (read r.rest (ended r.rest r.stands)) in
    let s : SpelledStream = record { value = p.value; shape = p.shape; size = p.size; tail = q } in
    record {
      first = r.first;
      last = s;
      rest = r.rest;
      counted = omega (arith, all, length-append r.first (s ∷ []));
      stand = r.stand;
      ends = record { size_is = size; spelled = spelled };
      is = subst (λ x. p ≡ read_with x s) padding (read_is mid.feed.padding p q tail);
      parts_are = r.parts_are;
      told = r.told;
    }

whole_streams : (count : ℕ) (padding : Padding) (p : PacketRead) (bytes : List ℕ) (parts : List Part) (d : Durations)
    → (w : AllWhole count padding p bytes parts d) → AreStreams (w.first ++ w.last ∷ []) bytes
whole_streams count padding p bytes parts d w =
    record { front = w.first; last = w.last; rest = w.rest; streams_are = refl; stand = w.stand; ends = w.ends }

whole_told : (count : ℕ) (padding : Padding) (p : PacketRead) (bytes : List ℕ) (parts : List Part) (d new : Durations)
    → (w : AllWhole count padding p bytes parts d)
    → ((ds : List ℕ) → length ds ≡ length parts → Told d ds → Told new (ds ++ duration_of p.value ∷ []))
    → Told new (durations_of (w.first ++ w.last ∷ []))
whole_told count padding p bytes parts d new w told =
    told_push d new padding w.first w.last p (length parts) (ap length w.parts_are ∙ length-map w.first (part_of padding)) w.is told w.told

pub some_multistream : (count : ℕ) (streams : List SpelledStream) (bytes : List ℕ) → length streams ≡ count
    → AreStreams streams bytes → HaveOneDuration (durations_of streams) → IsSomeMultistream count bytes
some_multistream count streams bytes counted are one = record {
  values = map (λ s. s.value) streams;
  tails = map (λ s. s.tail) streams;
  counted = length-map streams (λ s. s.value) ∙ counted;
  is = record { streams = streams; values_are = refl; tails_are = refl; are = are; duration = one };
}

whole_unequal : (count : ℕ) (padding : Padding) (p : PacketRead) (bytes : List ℕ) (parts : List Part) (d new : Durations)
    (k other : ℕ) → (w : AllWhole count padding p bytes parts d) → count ≤ 255
    → Told new (durations_of (w.first ++ w.last ∷ [])) → new.other ≡ Some other → (other < 255 → k ≡ other)
    → IsUnequalAt (durations_of (w.first ++ w.last ∷ [])) k
whole_unequal count padding p bytes parts d new k other w small told some is =
    let ss = w.first ++ w.last ∷ [] in
    let u = told_other new other (durations_of ss) told some in
    let within = unequal_within (durations_of ss) other u in
    rw (is (omega (arith, within, length-durations ss, w.counted, small))) u

-- the streams that the feed of the last one makes whole
whole_of : (old mid new : MultiFeed) (bytes : List ℕ) → mid.durations ≡ old.durations → mid.parts ≡ old.parts
    → mid.feed.framing ≡ old.feed.framing → mid.feed.padding ≡ old.feed.padding
    → ((b : List ℕ) → Stands old.feed b → Ended mid.feed b)
    → ((b : List ℕ) → Stands old.feed b → Finishes old.feed.framing b (Ok tt)) → (last : HasLast mid new) → Reads old bytes
    → (w : AllWhole old.streams old.feed.padding last.packet bytes old.parts.items old.durations)
    × Told new.durations (durations_of (w.first ++ w.last ∷ []))
whole_of old mid new bytes durations parts framing padding ended answer last r =
    let w = all_whole old mid last.packet bytes framing ended answer last.read padding r in (
      w,
      whole_told old.streams old.feed.padding last.packet bytes old.parts.items old.durations new.durations w (rw (durations, parts) at last.told),
    )

pub last_reads : (old mid new : MultiFeed) (bytes : List ℕ) (result : Result ⊤ MultiFault) → mid.streams ≡ old.streams
    → mid.durations ≡ old.durations → mid.parts ≡ old.parts → mid.feed.framing ≡ old.feed.framing
    → mid.feed.padding ≡ old.feed.padding → ((b : List ℕ) → Stands old.feed b → Ended mid.feed b)
    → ((b : List ℕ) → Stands old.feed b → Finishes old.feed.framing b (Ok tt)) → LastReads mid result new
    → SameChoices mid new → Reads old bytes → EndReads bytes result new
last_reads old mid new bytes (Ok done) streams durations parts framing padding ended answer (last, none, pushed) same r =
    let (w, told) = whole_of old mid new bytes durations parts framing padding ended answer last r in
    record {
      streams = w.first ++ w.last ∷ [];
      counted = w.counted ∙ sym (same.streams ∙ streams);
      are = whole_streams old.streams old.feed.padding last.packet bytes old.parts.items old.durations w;
      duration = told_one new.durations (durations_of (w.first ++ w.last ∷ [])) told none;
      parts_are = parts_push old.feed.padding w.first w.last last.packet old.parts.items new.parts.items w.parts_are w.is (rw parts at pushed)
          ∙ ap (λ x. map (part_of x) (w.first ++ w.last ∷ [])) (sym (same.padding ∙ padding));
    }
last_reads old mid new bytes (Err (Stream k f)) streams durations parts framing padding ended answer last same r = absurd last
last_reads old mid new bytes (Err (Unequal k)) streams durations parts framing padding ended answer (last, other, kept) same r =
    let (w, told) = whole_of old mid new bytes durations parts framing padding ended answer last r in
    record {
      unequal = record {
        streams = w.first ++ w.last ∷ [];
        counted = w.counted ∙ sym (same.streams ∙ streams);
        are = record { front = w.first; last = w.last; rest = w.rest; streams_are = refl; stand = w.stand; ends = w.ends };
        unequal = whole_unequal old.streams old.feed.padding last.packet bytes old.parts.items old.durations new.durations k other.0 w old.small told other.1 other.2;
      };
      parts_are = (rw parts at kept) ∙ w.parts_are ∙ ap (λ x. map (part_of x) w.first) (sym (same.padding ∙ padding));
    }
last_reads old mid new bytes (Err NoMemory) streams durations parts framing padding ended answer (last, none) same r =
    let (w, told) = whole_of old mid new bytes durations parts framing padding ended answer last r in
    let ss = w.first ++ w.last ∷ [] in
    some_multistream new.streams ss bytes (w.counted ∙ sym (same.streams ∙ streams))
    (whole_streams old.streams old.feed.padding last.packet bytes old.parts.items old.durations w) (told_one new.durations (durations_of ss) told none)
