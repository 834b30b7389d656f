-- The bytes that are lent of packets are a multistream packet of the same values.
use Rattle.std.proofs.Common.{◌≡◌, ℕ, ◌≤◌, List, [], ◌∷◌, ◌++◌, length, map, drop, refl, sym, ap, ◌∙◌, subst, arith, length-append}
use Rattle.std.proofs.lemmas.List.{length-map}
use Rattle.std.specs.List.{AllByRecursion}
use Rattle.job_loop.specs.Shown.{Shown}
use Rattle.opus_packet.specs.Value.{IsPacketValue, duration_of}
use Rattle.opus_packet.specs.Held.{HeldRead}
use Rattle.opus_packet.specs.Tail.{kept, counted, kept_bytes}
use Rattle.opus_feed.specs.declared.padding.Padding.{Padding}
use Rattle.opus_feed.specs.Tails.{tail_kept}
use Rattle.opus_multi.specs.Streams.{SpelledStream, StandFirst, AreStreams}
use Rattle.opus_multi.specs.Durations.{HaveOneDuration}
use Rattle.opus_multi.specs.Multistream.{durations_of, IsMultistream}
use Rattle.opus_multi.specs.Forms.{IsKeptValue, kept_multistream}
use Rattle.opus_multi.specs.Joins.{held_durations}
use Rattle.opus_multi.proofs.FormsLemmas.{kept-is_multistream}
use Rattle.pack_records.proofs.LentLemmas.{tail-few}
use Rattle.stream_records.specs.declared.item.StreamsItem.{StreamsItem}
use Rattle.stream_records.specs.Holds.{Choices, held_as, spelling_of, HoldsStreams}

-- padding bytes that are kept are few enough

-- all streams have values

first_values : (padding : Padding) (ss : List SpelledStream) (bytes rest : List ℕ) → StandFirst ss bytes rest
    → AllByRecursion IsKeptValue (map (held_as padding) ss)
first_values padding [] bytes rest h = tt
first_values padding (s ∷ ss) bytes rest h = (
  record { value = h.0.spelled.value; tail = tail-few padding s.tail },
  first_values padding ss (drop s.size bytes) rest h.1,
)

values_push : (padding : Padding) (ss : List SpelledStream) (s : SpelledStream)
    → AllByRecursion IsKeptValue (map (held_as padding) ss) → IsPacketValue s.value
    → AllByRecursion IsKeptValue (map (held_as padding) (ss ++ s ∷ []))
values_push padding [] s all is = (record { value = is; tail = tail-few padding s.tail }, tt)
values_push padding (t ∷ ss) s all is = (all.0, values_push padding ss s all.1 is)

kept_values : (padding : Padding) (ss : List SpelledStream) (bytes : List ℕ) → AreStreams ss bytes
    → AllByRecursion IsKeptValue (map (held_as padding) ss)
kept_values padding ss bytes a =
    subst (λ l. AllByRecursion IsKeptValue (map (held_as padding) l)) (sym a.streams_are)
    (values_push padding a.front a.last (first_values padding a.front bytes a.rest a.stand) a.ends.spelled.value)

-- the values, the padding bytes and the durations are theirs

same_values : (padding : Padding) (ss : List SpelledStream)
    → map (λ (h : HeldRead). h.value) (map (held_as padding) ss) ≡ map (λ s. s.value) ss
same_values padding [] = refl
same_values padding (s ∷ ss) = ap (λ l. s.value ∷ l) (same_values padding ss)

same_tails : (padding : Padding) (ss : List SpelledStream)
    → map (λ (h : HeldRead). h.tail) (map (held_as padding) ss) ≡ map (λ s. kept_bytes (tail_kept padding s.tail)) ss
same_tails padding [] = refl
same_tails padding (s ∷ ss) = ap (λ l. kept_bytes (tail_kept padding s.tail) ∷ l) (same_tails padding ss)

same_durations : (padding : Padding) (ss : List SpelledStream) → held_durations (map (held_as padding) ss) ≡ durations_of ss
same_durations padding [] = refl
same_durations padding (s ∷ ss) = ap (λ l. duration_of s.value ∷ l) (same_durations padding ss)

some_streams : (ss : List SpelledStream) (bytes : List ℕ) → AreStreams ss bytes → 1 ≤ length ss
some_streams ss bytes a = omega (arith, ap (λ (l : List SpelledStream). length l) a.streams_are, length-append a.front (a.last ∷ []))

pub lent_values : (c : Choices) (start range : ℕ) (bytes : List ℕ) (r : Shown StreamsItem)
    → (holds : HoldsStreams c start range bytes r)
    → IsMultistream (map (λ s. s.value) holds.streams)
    (map (λ s. kept_bytes (tail_kept c.padding s.tail)) holds.streams) r.bytes
lent_values c start range bytes r holds =
    let ss = holds.streams in
    let hs = map (held_as c.padding) ss in
    let is : r.bytes ≡ kept_multistream hs = ap (λ (x : Shown StreamsItem). x.bytes) holds.shows in
    let one : HaveOneDuration (held_durations hs) = subst HaveOneDuration (sym (same_durations c.padding ss)) holds.duration in
    let some : 1 ≤ length hs = omega (arith, length-map ss (held_as c.padding), some_streams ss bytes holds.are) in
    let m = kept-is_multistream hs some (kept_values c.padding ss bytes holds.are) one in
    subst (IsMultistream (map (λ s. s.value) ss) (map (λ s. kept_bytes (tail_kept c.padding s.tail)) ss)) (sym is)
    (subst (λ vs. IsMultistream vs (map (λ s. kept_bytes (tail_kept c.padding s.tail)) ss) (kept_multistream hs))
    (same_values c.padding ss)
    (subst (λ qs. IsMultistream (map (λ (h : HeldRead). h.value) hs) qs (kept_multistream hs)) (same_tails c.padding ss) m))

pub lent_count : (c : Choices) (start range : ℕ) (bytes : List ℕ) (r : Shown StreamsItem) → HoldsStreams c start range bytes r
    → length r.item.streams.items ≡ c.streams
lent_count c start range bytes r holds =
    ap (λ (x : Shown StreamsItem). length x.item.streams.items) holds.shows
    ∙ length-map holds.streams (spelling_of c.padding) ∙ holds.counted
