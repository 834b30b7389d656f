-- How a record that is read in pieces goes on.
use Rattle.std.proofs.Common.{◌≡◌, ℕ, ◌+◌, ◌-◌, ◌<◌, ◌≤◌, List, [], ◌∷◌, ◌++◌, length, take, drop, map, flat_map, Option, Some, None, inl, inr, refl, ap, sym, subst, ◌∙◌, arith, length-append}
use Rattle.std.proofs.lemmas.List.{map_push, length-map, length-take, append_assoc, append-nil, take-append-le, take-append-drop}
use Rattle.std.proofs.Math.Seq.{take-append_seam, drop-length}
use Rattle.opus_packet.specs.declared.fault.Fault.{Fault}
use Rattle.opus_packet.specs.Value.{duration_of}
use Rattle.opus_packet.specs.PacketPrefix.{AreBytes}
use Rattle.opus_packet.specs.Read.{PacketRead}
use Rattle.opus_packet.proofs.BytesLemmas.{AreBytes-append, AreBytes-take}
use Rattle.opus_feed.specs.declared.framing.Framing.{Framing}
use Rattle.opus_feed.specs.declared.framing.Framing.TheVariants.{SelfDelimited}
use Rattle.opus_feed.specs.declared.padding.Padding.{Padding}
use Rattle.opus_feed.specs.declared.step.Step.TheVariants.{Done, Refused}
use Rattle.opus_feed.specs.Feeds.{Stands}
use Rattle.opus_feed.specs.Steps.{IsReading}
use Rattle.opus_feed.specs.Answers.{Answers, Ends, IsRead}
use Rattle.opus_feed.proofs.ReadingLemmas.{reading_answer}
use Rattle.opus_multi.specs.Streams.{SpelledStream, StandFirst}
use Rattle.opus_multi.specs.Multistream.{durations_of}
use Rattle.opus_multi.specs.MultistreamFault.{framing_of}
use Rattle.opus_multi.specs.StreamParts.{read_with}
use Rattle.opus_multi.specs.Forms.{kept_self_of}
use Rattle.opus_multi.specs.Told.{Says}
use Rattle.opus_multi.specs.declared.durations.Durations.{Durations as MultiDurations}
use Rattle.opus_multi.proofs.StreamsLemmas.{stand_more, stand_push, stand_bytes}
use Rattle.opus_multi.proofs.ReadLemmas.{framing_more, told_other, unequal_within, length-durations}
use Rattle.opus_multi.proofs.TurnLemmas.{IsNext, next_is, told_push}
use Rattle.pack_records.proofs.TakenLemmas.{answers_refuses, refused_at}
use Rattle.stream_records.specs.declared.durations.Other.{Other}
use Rattle.stream_records.specs.declared.durations.Durations.{Durations}
use Rattle.stream_records.specs.declared.stream_pieces.StreamPieces.{StreamPieces}
use Rattle.stream_records.specs.Holds.{sizes_of, held_as, spelling_of}
use Rattle.stream_records.specs.HoldsLaws.{stand_sizes}
use Rattle.stream_records.specs.Told.{stream_in, IsAdded, BeginsBehind, Told}
use Rattle.stream_records.specs.StreamPieces.{whole_in, choices_of, Reads, HasRefused, HasAdded, SoFar}

-- ---- the stream that has begun

pub count_whole : (p : StreamPieces) (first : List SpelledStream) → whole_in p ≡ map (spelling_of p.feed.padding) first
    → length (whole_in p) ≡ length first
count_whole p first are = ap length are ∙ length-map first (spelling_of p.feed.padding)

-- it goes on
pub reads_on : (old new : StreamPieces) (start : ℕ) (bytes piece : List ℕ) → new.streams ≡ old.streams
    → whole_in new ≡ whole_in old → new.kept.items ≡ old.kept.items → new.durations ≡ old.durations
    → new.begun ≡ old.begun → new.feed.padding ≡ old.feed.padding → new.feed.framing ≡ old.feed.framing
    → ((b : List ℕ) → Stands old.feed b → Stands new.feed (b ++ piece)) → IsReading new.feed.place → AreBytes piece
    → Reads old start bytes → Reads new start (bytes ++ piece)
reads_on old new start bytes piece streams whole kept durations begun padding framing fed reading are r = record {
  are_bytes = AreBytes-append bytes piece r.are_bytes are;
  first = r.first;
  rest = r.rest ++ piece;
  within = rw streams r.within;
  stand = stand_more r.first bytes r.rest piece r.stand;
  whole_are = rw (whole, padding) r.whole_are;
  kept_is = rw (kept, padding) r.kept_is;
  begun_is = begun ∙ r.begun_is;
  told = rw durations r.told;
  framing = rw streams (framing ∙ r.framing);
  stands = fed r.rest r.stands;
  reading = reading;
}

-- no packet can follow
pub turn_refused : (old new : StreamPieces) (f : Fault) (start : ℕ) (bytes piece : List ℕ) → new.streams ≡ old.streams
    → whole_in new ≡ whole_in old → new.begun ≡ old.begun → AreBytes piece
    → ((b : List ℕ) → Stands old.feed b → Answers old.feed.framing (b ++ piece) (Refused f)) → Reads old start bytes
    → HasRefused new start f (length bytes) (bytes ++ piece)
turn_refused old new f start bytes piece streams whole begun are answer r =
    let all = AreBytes-append bytes piece r.are_bytes are in
    let stand = stand_more r.first bytes r.rest piece r.stand in
    let rest_are = stand_bytes r.first (bytes ++ piece) (r.rest ++ piece) stand all in
    let refuses = answers_refuses old.feed.framing f (r.rest ++ piece) (answer r.rest r.stands) in
    let at = refused_at old.feed.framing f r.rest piece rest_are
    (reading_answer old.feed r.rest r.stands r.reading) refuses in
    let sizes = stand_sizes r.first bytes r.rest r.stand in
    let began = r.begun_is in
    let same : old.feed.framing ≡ framing_of new.streams (length r.first) = r.framing ∙ rw streams refl in
    record {
      are_bytes = all;
      first = r.first;
      rest = r.rest ++ piece;
      within = rw streams r.within;
      stand = stand;
      counted = ap length whole ∙ count_whole old r.first r.whole_are;
      begun_is = begun ∙ r.begun_is;
      refuses = rw (sym same) refuses;
      low = omega (arith, at.0, sizes, began, begun);
      high = at.1;
    }

-- ---- a stream that ends

pub flat_push : {A : Type 0} (f : A → List ℕ) (xs : List A) (y : A) → flat_map f (xs ++ y ∷ []) ≡ flat_map f xs ++ f y
flat_push f [] y = append-nil (f y)
flat_push f (x ∷ xs) y = rw (flat_push f xs y) (sym (append_assoc (f x) (flat_map f xs) (f y)))

-- durations

unfoldable pub multi : Durations → MultiDurations
multi d = record { first = d.first; other = stream_in d.other }

-- the one that lasts otherwise is among them
other_within : (d : Durations) (start : ℕ) (ss : List SpelledStream) (k : ℕ) → Told d start ss → stream_in d.other ≡ Some k
    → k ≤ length ss
unfolding multi
other_within d start ss k told some =
    let within = unequal_within (durations_of ss) k (told_other (multi d) k (durations_of ss) told.says some) in
    omega (arith, within, length-durations ss)

begins_push : (start : ℕ) (other : Option Other) (ss : List SpelledStream) (s : SpelledStream)
    → ((k : ℕ) → stream_in other ≡ Some k → k ≤ length ss) → BeginsBehind start ss other
    → BeginsBehind start (ss ++ s ∷ []) other
begins_push start None ss s within b = tt
begins_push start (Some o) ss s within b =
    b ∙ ap (λ l. start + sizes_of l) (sym (take-append-le o.stream ss (s ∷ []) (within o.stream refl)))

begins_added : (start : ℕ) (old new : Option Other) (k begun : ℕ) (ss : List SpelledStream) (s : SpelledStream)
    → k ≡ length ss → begun ≡ start + sizes_of ss → ((k : ℕ) → stream_in old ≡ Some k → k ≤ length ss)
    → BeginsBehind start ss old → IsAdded old k begun new → BeginsBehind start (ss ++ s ∷ []) new
begins_added start old new k begun ss s counted is within b (inl same) =
    subst (BeginsBehind start (ss ++ s ∷ [])) (sym same) (begins_push start old ss s within b)
begins_added start old new k begun ss s counted is within b (inr other) =
    subst (BeginsBehind start (ss ++ s ∷ [])) (sym other)
    (is ∙ ap (λ l. start + sizes_of l)
    (sym (take-append_seam ss (s ∷ [])) ∙ ap (λ n. take n (ss ++ s ∷ [])) (sym counted)))

pub told_added : (old new : Durations) (start k begun : ℕ) (padding : Padding) (ss : List SpelledStream)
    (s : SpelledStream) (p : PacketRead) → k ≡ length ss → begun ≡ start + sizes_of ss → p ≡ read_with padding s
    → ((ds : List ℕ) → length ds ≡ k → Says old.first (stream_in old.other) ds
    → Says new.first (stream_in new.other) (ds ++ duration_of p.value ∷ []))
    → IsAdded old.other k begun new.other → Told old start ss → Told new start (ss ++ s ∷ [])
unfolding multi
told_added old new start k begun padding ss s p counted at is says added told = record {
  says = told_push (multi old) (multi new) padding ss s p k counted is says told.says;
  begins = begins_added start old.other new.other k begun ss s counted at (λ j. other_within old start ss j told)
      told.begins added;
}

-- the forms and the spellings

pub whole_push : (padding : Padding) (ss : List SpelledStream) (s : SpelledStream) (p : PacketRead) (old new : StreamPieces)
    (framing : Framing) → whole_in old ≡ map (spelling_of padding) ss → p ≡ read_with padding s
    → (added : HasAdded framing old new) → p ≡ added.packet
    → whole_in new ≡ map (spelling_of padding) (ss ++ s ∷ [])
whole_push padding ss s p old new framing are is added same =
    rw (added.whole_are, are, sym same, is, map_push (spelling_of padding) ss s) refl

kept_push : (padding : Padding) (ss : List SpelledStream) (s : SpelledStream) (p : PacketRead) (old new : StreamPieces)
    → old.kept.items ≡ flat_map (λ s. kept_self_of (held_as padding s)) ss → p ≡ read_with padding s
    → (added : HasAdded SelfDelimited old new) → p ≡ added.packet
    → new.kept.items ≡ flat_map (λ s. kept_self_of (held_as padding s)) (ss ++ s ∷ [])
kept_push padding ss s p old new are is added same =
    rw (added.kept_is, are, sym same, is, flat_push (λ s. kept_self_of (held_as padding s)) ss s) refl

-- a self-delimited stream was begun
next_framing : (p : StreamPieces) (start : ℕ) (bytes : List ℕ) → (r : Reads p start bytes)
    → length (whole_in p) + 1 < p.streams → p.feed.framing ≡ SelfDelimited
next_framing p start bytes r more =
    r.framing ∙ framing_more p.streams (length r.first) (omega (arith, more, count_whole p r.first r.whole_are))

reads_push : (mid new : StreamPieces) (start : ℕ) (first : List SpelledStream) (bytes rest : List ℕ) (p : PacketRead)
    → AreBytes bytes → StandFirst first bytes rest → IsNext mid.feed.padding p rest
    → whole_in mid ≡ map (spelling_of mid.feed.padding) first
    → mid.kept.items ≡ flat_map (λ s. kept_self_of (held_as mid.feed.padding s)) first
    → mid.begun ≡ start + sizes_of first → Told mid.durations start first → length first + 1 < mid.streams
    → (added : HasAdded SelfDelimited mid new) → p ≡ added.packet → new.begun ≡ start + length bytes
    → new.feed.framing ≡ framing_of mid.streams (length (whole_in mid) + 1) → Stands new.feed []
    → IsReading new.feed.place → new.streams ≡ mid.streams → new.feed.padding ≡ mid.feed.padding → Reads new start bytes
reads_push mid new start first bytes rest p are stand n whole kept begun told more added same begun_new framing begins reading
    streams padding =
    let count = count_whole mid first whole in
    let counted : length (first ++ n.stream ∷ []) ≡ length first + 1 = length-append first (n.stream ∷ []) in
    let none : drop n.stream.size rest ≡ [] = rw n.all (drop-length rest) in
    let stands : StandFirst (first ++ n.stream ∷ []) bytes [] =
    rw none at (stand_push first bytes rest n.stream stand n.begins) in
    let sizes = stand_sizes (first ++ n.stream ∷ []) bytes [] stands in
    record {
      are_bytes = are;
      first = first ++ n.stream ∷ [];
      rest = [];
      within = rw streams (omega (arith, counted, more));
      stand = stands;
      whole_are = subst (λ d. whole_in new ≡ map (spelling_of d) (first ++ n.stream ∷ [])) (sym padding)
          (whole_push mid.feed.padding first n.stream p mid new SelfDelimited whole n.is added same);
      kept_is = subst (λ d. new.kept.items ≡ flat_map (λ s. kept_self_of (held_as d s)) (first ++ n.stream ∷ [])) (sym padding)
          (kept_push mid.feed.padding first n.stream p mid new kept n.is added same);
      begun_is = omega (arith, begun_new, sizes);
      told = told_added mid.durations new.durations start (length (whole_in mid)) mid.begun mid.feed.padding first n.stream
          added.packet count begun (sym same ∙ n.is) added.told added.added told;
      framing = framing ∙ rw (streams, counted, count) refl;
      stands = begins;
      reading = reading;
    }

pub reads_next : (old mid new : StreamPieces) (used start end next : ℕ) (bytes piece : List ℕ) → mid.streams ≡ old.streams
    → whole_in mid ≡ whole_in old → mid.kept.items ≡ old.kept.items → mid.durations ≡ old.durations
    → mid.begun ≡ old.begun → mid.feed.padding ≡ old.feed.padding → mid.feed.framing ≡ old.feed.framing
    → ((b : List ℕ) → Stands old.feed b → Stands mid.feed (b ++ piece))
    → ((b : List ℕ) → Stands old.feed b → IsReading old.feed.place → Ends (length b) (b ++ piece) (Done used))
    → used ≤ length piece → length (whole_in old) + 1 < old.streams → (added : HasAdded SelfDelimited mid new)
    → new.begun ≡ next → next ≡ end - (length piece - used) → start + length bytes + length piece ≡ end
    → new.feed.framing ≡ framing_of mid.streams (length (whole_in mid) + 1) → Stands new.feed []
    → IsReading new.feed.place → choices_of new ≡ choices_of mid → AreBytes piece → Reads old start bytes
    → Reads new start (bytes ++ take used piece)
reads_next old mid new used start end next bytes piece streams whole kept durations begun padding framing fed ends within more
    added begun_new next_is_at size framing_new begins reading same are r =
    let self = next_framing old start bytes r more in
    let count = count_whole old r.first r.whole_are in
    let read : IsRead SelfDelimited mid.feed.padding (r.rest ++ piece) added.packet =
    subst (λ f. IsRead f mid.feed.padding (r.rest ++ piece) added.packet) (framing ∙ self)
    (added.read (r.rest ++ piece) (fed r.rest r.stands)) in
    let long : length (bytes ++ take used piece) ≡ length bytes + used =
    omega (arith, length-append bytes (take used piece), length-take used piece, within) in
    reads_push mid new start r.first (bytes ++ take used piece) (r.rest ++ take used piece) added.packet
    (AreBytes-append bytes (take used piece) r.are_bytes (AreBytes-take used piece are))
    (stand_more r.first bytes r.rest (take used piece) r.stand)
    (next_is mid.feed.padding added.packet r.rest piece used read (ends r.rest r.stands r.reading) within)
    (rw (whole, padding) r.whole_are) (rw (kept, padding) r.kept_is) (begun ∙ r.begun_is) (rw durations r.told)
    (omega (arith, count, more, streams)) added refl
    (omega (arith, begun_new, next_is_at, size, long, within)) framing_new begins reading
    (ap (λ c. c.streams) same) (ap (λ c. c.padding) same)

-- ---- all turns over a piece

so_far_size : (start end : ℕ) (bytes front piece rest : List ℕ) → piece ≡ front ++ rest
    → start + length bytes + length piece ≡ end → start + length (bytes ++ front) + length rest ≡ end
so_far_size start end bytes front piece rest is size =
    omega (arith, size, ap (λ (l : List ℕ). length l) is, length-append front rest, length-append bytes front)

pub so_far_next : (old now new : StreamPieces) (end : ℕ) (piece rest : List ℕ) (used : ℕ) → SoFar old now end piece rest
    → ((start : ℕ) (b : List ℕ) → start + length b + length rest ≡ end → Reads now start b
    → Reads new start (b ++ take used rest))
    → choices_of new ≡ choices_of now → SoFar old new end piece (drop used rest)
so_far_next old now new end piece rest used s reads same = record {
  front = s.front ++ take used rest;
  piece_is = s.piece_is ∙ ap (λ l. s.front ++ l) (sym (take-append-drop used rest))
      ∙ sym (append_assoc s.front (take used rest) (drop used rest));
  same = same ∙ s.same;
  reads = λ start bytes size r. rw (sym (append_assoc bytes s.front (take used rest)))
      (reads start (bytes ++ s.front) (so_far_size start end bytes s.front piece rest s.piece_is size)
      (s.reads start bytes size r));
}

-- nothing of it was taken
pub so_far_nothing : (p : StreamPieces) (end : ℕ) (piece : List ℕ) → SoFar p p end piece piece
so_far_nothing p end piece = record {
  front = [];
  piece_is = refl;
  same = refl;
  reads = λ start bytes size r. subst (Reads p start) (sym (append-nil bytes)) r;
}

all_of : (old now : StreamPieces) (end : ℕ) (piece rest bytes : List ℕ) → (s : SoFar old now end piece rest)
    → (bytes ++ s.front) ++ rest ≡ bytes ++ piece
all_of old now end piece rest bytes s = append_assoc bytes s.front rest ∙ ap (λ l. bytes ++ l) (sym s.piece_is)

pub so_far_none : (old now new : StreamPieces) (end start : ℕ) (piece rest bytes : List ℕ) → SoFar old now end piece rest
    → ((start : ℕ) (b : List ℕ) → start + length b + length rest ≡ end → Reads now start b → Reads new start (b ++ rest))
    → start + length bytes + length piece ≡ end → Reads old start bytes → Reads new start (bytes ++ piece)
so_far_none old now new end start piece rest bytes s reads size r =
    subst (Reads new start) (all_of old now end piece rest bytes s)
    (reads start (bytes ++ s.front) (so_far_size start end bytes s.front piece rest s.piece_is size)
    (s.reads start bytes size r))

pub so_far_err : (old now new : StreamPieces) (end start : ℕ) (piece rest bytes : List ℕ) (f : Fault)
    → SoFar old now end piece rest
    → ((start : ℕ) (b : List ℕ) → start + length b + length rest ≡ end → Reads now start b
    → HasRefused new start f (length b) (b ++ rest))
    → start + length bytes + length piece ≡ end → Reads old start bytes
    → HasRefused new start f (length bytes) (bytes ++ piece)
so_far_err old now new end start piece rest bytes f s reads size r =
    let h = subst (HasRefused new start f (length (bytes ++ s.front))) (all_of old now end piece rest bytes s)
    (reads start (bytes ++ s.front) (so_far_size start end bytes s.front piece rest s.piece_is size)
    (s.reads start bytes size r)) in
    let low = h.low in
    record {
      are_bytes = h.are_bytes;
      first = h.first;
      rest = h.rest;
      within = h.within;
      stand = h.stand;
      counted = h.counted;
      begun_is = h.begun_is;
      refuses = h.refuses;
      low = omega (arith, low, length-append bytes s.front);
      high = h.high;
    }
