-- How a feed of multistream packets goes on.
use Rattle.std.proofs.Common.{◌≡◌, ℕ, ◌+◌, ◌<◌, ◌≤◌, List, [], ◌∷◌, ◌++◌, length, take, drop, map, refl, ap, sym, subst, ◌∙◌, arith, length-append, take_all}
use Rattle.std.proofs.lemmas.List.{map_push, length-map, length-take}
use Rattle.std.proofs.Math.Seq.{take-append-add, drop-length}
use Rattle.opus_packet.specs.declared.fault.Fault.{Fault}
use Rattle.opus_packet.specs.Value.{duration_of}
use Rattle.opus_packet.specs.PacketPrefix.{AreBytes}
use Rattle.opus_packet.specs.Read.{PacketRead}
use Rattle.opus_feed.specs.declared.framing.Framing.TheVariants.{SelfDelimited}
use Rattle.opus_feed.specs.declared.padding.Padding.{Padding}
use Rattle.opus_feed.specs.declared.step.Step.TheVariants.{Done}
use Rattle.opus_feed.specs.declared.place.Place.TheVariants.{Failed}
use Rattle.opus_feed.specs.declared.feed.Feed.{Feed}
use Rattle.opus_feed.specs.Stands.{StandsAt}
use Rattle.opus_feed.specs.Steps.{IsReading}
use Rattle.opus_feed.specs.Packets.{Refuses}
use Rattle.opus_feed.specs.Feeds.{Stands, HasFailed}
use Rattle.opus_feed.specs.Answers.{Answers, Ends, IsRead}
use Rattle.opus_multi.specs.declared.multi_feed.MultiFeed.{MultiFeed}
use Rattle.opus_multi.specs.Streams.{SpelledStream, BeginsWithStream, StandFirst}
use Rattle.opus_multi.specs.declared.durations.Durations.{Durations}
use Rattle.opus_multi.specs.declared.part.Part.{Part}
use Rattle.opus_multi.specs.Told.{Told}
use Rattle.opus_multi.specs.Multistream.{durations_of}
use Rattle.opus_multi.specs.MultistreamFault.{framing_of}
use Rattle.opus_multi.specs.StreamParts.{read_with, part_as, part_of}
use Rattle.opus_multi.specs.MultiStands.{Reads, HasRefused}
use Rattle.opus_multi.specs.MultiAnswers.{HasMoreStreams}
use Rattle.opus_multi.specs.MultiTurns.{HasKept}
use Rattle.opus_multi.proofs.StreamsLemmas.{stand_more, stand_push}
use Rattle.opus_multi.proofs.ReadLemmas.{framing_more, length-durations}

-- a feed of one packet

refuses_on : (f : Feed) (fault : Fault) (bytes : List ℕ) → Stands f bytes → HasFailed fault f → (more : List ℕ)
    → AreBytes (bytes ++ more) → Refuses f.framing fault (bytes ++ more)
refuses_on f fault bytes s failed more are =
    let at : StandsAt f.framing (Failed fault.rule) f.head f.body bytes = subst (λ p. StandsAt f.framing p f.head f.body bytes) failed.0 s.at in
    subst (λ x. Refuses f.framing x (bytes ++ more)) (sym failed.1) (at more are)

-- the stream that has begun

pub count_parts : (m : MultiFeed) (first : List SpelledStream) → m.parts.items ≡ map (part_of m.feed.padding) first
    → length m.parts.items ≡ length first
count_parts m first are = ap length are ∙ length-map first (part_of m.feed.padding)

pub reads_on : (old new : MultiFeed) (bytes piece : List ℕ) → new.streams ≡ old.streams → new.parts ≡ old.parts
    → new.durations ≡ old.durations → new.feed.padding ≡ old.feed.padding → new.feed.framing ≡ old.feed.framing
    → ((b : List ℕ) → Stands old.feed b → Stands new.feed (b ++ piece)) → IsReading new.feed.place → Reads old bytes
    → Reads new (bytes ++ piece)
reads_on old new bytes piece streams parts durations padding framing fed reading r = record {
  first = r.first;
  rest = r.rest ++ piece;
  within = rw streams r.within;
  stand = stand_more r.first bytes r.rest piece r.stand;
  parts_are = rw (parts, padding) r.parts_are;
  told = rw durations r.told;
  framing = rw streams (framing ∙ r.framing);
  stands = fed r.rest r.stands;
  reading = reading;
}

pub refused : (old new : MultiFeed) (f : Feed) (k : ℕ) (fault : Fault) (bytes piece : List ℕ) → k ≡ length old.parts.items
    → new.streams ≡ old.streams → new.parts ≡ old.parts → new.feed.padding ≡ old.feed.padding
    → f.framing ≡ old.feed.framing → ((b : List ℕ) → Stands old.feed b → Stands f (b ++ piece)) → HasFailed fault f
    → Reads old bytes → HasRefused new k fault (bytes ++ piece)
refused old new f k fault bytes piece is streams parts padding framing fed failed r =
    let counted : length r.first ≡ k = sym (count_parts old r.first r.parts_are) ∙ sym is in
    let same : f.framing ≡ framing_of new.streams k = framing ∙ r.framing ∙ rw (streams, counted) refl in
    record {
      first = r.first;
      rest = r.rest ++ piece;
      counted = counted;
      within = rw (streams, sym counted) r.within;
      stand = stand_more r.first bytes r.rest piece r.stand;
      parts_are = rw (parts, padding) r.parts_are;
      refuses = λ more are. rw (sym same) (refuses_on f fault (r.rest ++ piece) (fed r.rest r.stands) failed more are);
    }

-- a stream that ends

-- the bytes are the stream's packet, self-delimited, which was read so
pub record IsNext (padding : Padding) (p : PacketRead) (bytes : List ℕ) : Type 0 where
  pub stream : SpelledStream
  pub begins : BeginsWithStream stream bytes
  pub all : stream.size ≡ length bytes
  pub is : p ≡ read_with padding stream

pub next_is : (padding : Padding) (p : PacketRead) (rest piece : List ℕ) (used : ℕ) → IsRead SelfDelimited padding (rest ++ piece) p
    → Ends (length rest) (rest ++ piece) (Done used) → used ≤ length piece → IsNext padding p (rest ++ take used piece)
next_is padding p rest piece used read ends within =
    let (q, spelled, inside, tail) = read in
    let size : p.size ≡ length rest + used = ends p.value p.shape p.size (record { within = inside; spelled = (q, spelled) }) in
    let front : take p.size (rest ++ piece) ≡ rest ++ take used piece = rw size (take-append-add rest piece used) in
    let all : p.size ≡ length (rest ++ take used piece) = omega (arith, size, length-append rest (take used piece), length-take used piece, within) in
    let first : take p.size (rest ++ take used piece) ≡ rest ++ take used piece = take_all p.size (rest ++ take used piece) (omega (arith, all)) in
    record {
      stream = record { value = p.value; shape = p.shape; size = p.size; tail = q };
      begins = record { within = omega (arith, all); spelled = rw first (rw front at spelled) };
      all = all;
      is = rw (sym tail) refl;
    }

-- a self-delimited stream was begun
next_framing : (m : MultiFeed) (bytes : List ℕ) → (r : Reads m bytes) → length m.parts.items + 1 < m.streams
    → m.feed.framing ≡ SelfDelimited
next_framing m bytes r more =
    r.framing ∙ framing_more m.streams (length r.first) (omega (arith, more, count_parts m r.first r.parts_are))

pub parts_push : (padding : Padding) (first : List SpelledStream) (s : SpelledStream) (p : PacketRead) (old new : List Part)
    → old ≡ map (part_of padding) first → p ≡ read_with padding s → new ≡ old ++ part_as p ∷ []
    → new ≡ map (part_of padding) (first ++ s ∷ [])
parts_push padding first s p old new are is pushed = rw (pushed, are, is, map_push (part_of padding) first s) refl

pub told_push : (old new : Durations) (padding : Padding) (first : List SpelledStream) (s : SpelledStream) (p : PacketRead) (n : ℕ)
    → n ≡ length first → p ≡ read_with padding s
    → ((ds : List ℕ) → length ds ≡ n → Told old ds → Told new (ds ++ duration_of p.value ∷ []))
    → Told old (durations_of first) → Told new (durations_of (first ++ s ∷ []))
told_push old new padding first s p n counted is told before =
    let same : duration_of p.value ≡ duration_of s.value = ap (λ (x : PacketRead). duration_of x.value) is in
    rw (map_push (λ (t : SpelledStream). duration_of t.value) first s, sym same)
    (told (durations_of first) (length-durations first ∙ sym counted) before)

reads_push : (old new : MultiFeed) (first : List SpelledStream) (bytes rest : List ℕ) (p : PacketRead)
    → StandFirst first bytes rest → IsNext old.feed.padding p rest → old.parts.items ≡ map (part_of old.feed.padding) first
    → Told old.durations (durations_of first) → length first + 1 < old.streams
    → new.streams ≡ old.streams → new.feed.padding ≡ old.feed.padding → (kept : HasKept old new) → p ≡ kept.packet
    → Reads new bytes
reads_push old new first bytes rest p stand n parts told more streams padding kept is =
    let count = count_parts old first parts in
    let counted : length (first ++ n.stream ∷ []) ≡ length first + 1 = length-append first (n.stream ∷ []) in
    let none : drop n.stream.size rest ≡ [] = rw n.all (drop-length rest) in
    let same : kept.packet ≡ read_with old.feed.padding n.stream = sym is ∙ n.is in
    record {
      first = first ++ n.stream ∷ [];
      rest = [];
      within = rw streams (omega (arith, counted, more));
      stand = rw none at (stand_push first bytes rest n.stream stand n.begins);
      parts_are = rw padding (parts_push old.feed.padding first n.stream kept.packet old.parts.items new.parts.items parts same kept.parts_are);
      told = told_push old.durations new.durations old.feed.padding first n.stream kept.packet (length old.parts.items) count same kept.told told;
      framing = kept.framing ∙ rw (streams, counted, count) refl;
      stands = kept.begins;
      reading = kept.reading;
    }

pub reads_next : (old mid new : MultiFeed) (used : ℕ) (bytes piece : List ℕ) → mid.streams ≡ old.streams → mid.parts ≡ old.parts
    → mid.durations ≡ old.durations → mid.feed.padding ≡ old.feed.padding → mid.feed.framing ≡ old.feed.framing
    → new.streams ≡ mid.streams → new.feed.padding ≡ mid.feed.padding
    → ((b : List ℕ) → Stands old.feed b → Stands mid.feed (b ++ piece))
    → ((b : List ℕ) → Stands old.feed b → IsReading old.feed.place → Ends (length b) (b ++ piece) (Done used))
    → used ≤ length piece → length old.parts.items + 1 < old.streams → HasKept mid new → Reads old bytes
    → Reads new (bytes ++ take used piece)
reads_next old mid new used bytes piece streams parts durations padding framing streams_new padding_new fed ends within more kept r =
    let self = next_framing old bytes r more in
    let count = count_parts old r.first r.parts_are in
    let read : IsRead SelfDelimited mid.feed.padding (r.rest ++ piece) kept.packet =
    subst (λ f. IsRead f mid.feed.padding (r.rest ++ piece) kept.packet) (framing ∙ self) (kept.read (r.rest ++ piece) (fed r.rest r.stands)) in
    reads_push mid new r.first (bytes ++ take used piece) (r.rest ++ take used piece) kept.packet
    (stand_more r.first bytes r.rest (take used piece) r.stand)
    (next_is mid.feed.padding kept.packet r.rest piece used read (ends r.rest r.stands r.reading) within)
    (rw (parts, padding) r.parts_are) (rw durations r.told) (omega (arith, count, more, streams)) streams_new padding_new kept refl

pub more_streams : (old : MultiFeed) (used : ℕ) (bytes piece : List ℕ)
    → ((b : List ℕ) → Stands old.feed b → Answers old.feed.framing (b ++ piece) (Done used))
    → length old.parts.items + 1 < old.streams → Reads old bytes
    → HasMoreStreams old.streams (length old.parts.items) (bytes ++ piece)
more_streams old used bytes piece answer more r =
    let self = next_framing old bytes r more in
    let count = count_parts old r.first r.parts_are in
    let some = subst (λ f. Answers f (r.rest ++ piece) (Done used)) self (answer r.rest r.stands) in
    let (v, shape, size, begins) = some in
    let s : SpelledStream = record { value = v; shape = shape; size = size; tail = begins.spelled.0 } in
    let counted : length (r.first ++ s ∷ []) ≡ length r.first + 1 = length-append r.first (s ∷ []) in
    record {
      first = r.first ++ s ∷ [];
      rest = drop size (r.rest ++ piece);
      more = omega (arith, counted, count);
      within = omega (arith, counted, count, more);
      stand = stand_push r.first (bytes ++ piece) (r.rest ++ piece) s (stand_more r.first bytes r.rest piece r.stand) (record { within = begins.within; spelled = begins.spelled.1 });
    }
