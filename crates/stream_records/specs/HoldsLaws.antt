-- What bytes hold, they hold alone; and a fault that is decided early stays.
use Rattle.std.proofs.Common.{◌≡◌, ℕ, ◌+◌, ◌<◌, List, [], ◌∷◌, ◌++◌, length, take, map, min, refl, sym, ap, ◌∙◌, subst, inl, inr, length-append, length-drop, arith}
use Rattle.std.proofs.lemmas.List.{length-map}
use Rattle.job_loop.specs.Shown.{Shown}
use Rattle.opus_packet.specs.declared.fault.Fault.{Fault}
use Rattle.opus_packet.specs.PacketPrefix.{AreBytes}
use Rattle.opus_packet.proofs.BytesLemmas.{AreBytes-left, AreBytes-append}
use Rattle.opus_feed.specs.Packets.{fault_of}
use Rattle.opus_multi.specs.declared.fault.MultiFault.TheVariants.{Stream, Unequal}
use Rattle.opus_multi.specs.Streams.{SpelledStream, StandFirst}
use Rattle.opus_multi.specs.Multistream.{IsMultistream}
use Rattle.opus_multi.specs.MultistreamFault.{framing_of, IsBroken}
use Rattle.opus_multi.specs.MultistreamPrefix.{IsMultistreamPrefix}
use Rattle.opus_multi.proofs.StreamsLemmas.{Follows, follow, stand_more, stand_bytes}
use Rattle.opus_multi.proofs.OnlyLemmas.{broken_none, streams_once, fault_once, fault_none}
use Rattle.opus_multi.proofs.PrefixLemmas.{prefix-becomes}
use Rattle.pack_records.specs.Early.{IsEarly}
use Rattle.pack_records.specs.EarlyLaws.{early_more, early_none}
use Rattle.stream_records.specs.declared.item.StreamsFound.TheVariants.{Broken}
use Rattle.stream_records.specs.declared.item.StreamsItem.{StreamsItem}
use Rattle.stream_records.specs.Holds.{Choices, sizes_of, record_of, packets_record, broken_record, unequal_record, HoldsStreams, HoldsBroken, HoldsUnequal, Holds, ShowsEarly}

-- ---- places

-- the streams that stand first and the rest are all of the bytes
pub stand_sizes : (ss : List SpelledStream) (bytes rest : List ℕ) → StandFirst ss bytes rest
    → sizes_of ss + length rest ≡ length bytes
stand_sizes [] bytes rest e = omega (arith, ap (λ (l : List ℕ). length l) e)
stand_sizes (s ∷ ss) bytes rest h =
    let within = h.0.within in
    omega (arith, within, length-drop s.size bytes, stand_sizes ss _ rest h.1)

-- ---- one record

-- the same streams stand first, and the same one doesn't read
pub record IsSameFault (count : ℕ) (bytes : List ℕ) (j k : ℕ) (f g : Fault) (a : IsBroken count bytes j f)
    (b : IsBroken count bytes k g) : Type 0 where
  pub stream : j ≡ k
  pub fault : f ≡ g
  pub first : a.first ≡ b.first
  pub rest : a.rest ≡ b.rest

same_rest : (first other : List SpelledStream) (rest behind : List ℕ) → length first ≡ length other
    → Follows first other rest behind → (first ≡ other) × (rest ≡ behind)
same_rest first other rest behind same (inl p) = absurd (omega (arith, same, p.0))
same_rest first other rest behind same (inr p) = p

pub same_fault : (count : ℕ) (bytes : List ℕ) (j k : ℕ) (f g : Fault) (a : IsBroken count bytes j f)
    (b : IsBroken count bytes k g) → IsSameFault count bytes j k f g a b
same_fault count bytes j k f g a b =
    let e : Stream j f ≡ Stream k g = fault_once count bytes (Stream j f) (Stream k g) a b in
    let stream : j ≡ k = cc in
    let counted : length a.first ≡ length b.first = a.counted ∙ stream ∙ sym b.counted in
    let same = same_rest a.first b.first a.rest b.rest counted
    (follow a.first b.first bytes a.rest b.rest (omega (arith, counted)) a.stand b.stand) in
    record { stream = stream; fault = cc; first = same.0; rest = same.1 }

pub broken_same : (count start range : ℕ) (bytes : List ℕ) (r q : Shown StreamsItem)
    → HoldsBroken count start range bytes r → HoldsBroken count start range bytes q → r ≡ q
broken_same count start range bytes r q a b =
    let s = same_fault count bytes a.stream b.stream a.fault b.fault a.broken b.broken in
    a.shows
    ∙ ap (λ k. broken_record start range k a.fault (sizes_of a.broken.first) (length a.broken.rest)) s.stream
    ∙ ap (λ f. broken_record start range b.stream f (sizes_of a.broken.first) (length a.broken.rest)) s.fault
    ∙ ap (λ l. broken_record start range b.stream b.fault (sizes_of l) (length a.broken.rest)) s.first
    ∙ ap (λ l. broken_record start range b.stream b.fault (sizes_of b.broken.first) (length l)) s.rest
    ∙ sym b.shows

unequal_same : (count start range : ℕ) (bytes : List ℕ) (r q : Shown StreamsItem)
    → HoldsUnequal count start range bytes r → HoldsUnequal count start range bytes q → r ≡ q
unequal_same count start range bytes r q a b =
    let e : Unequal a.stream ≡ Unequal b.stream =
    fault_once count bytes (Unequal a.stream) (Unequal b.stream) a.unequal b.unequal in
    let stream : a.stream ≡ b.stream = cc in
    let streams = streams_once a.unequal.streams b.unequal.streams bytes a.unequal.are b.unequal.are
    (a.unequal.counted ∙ sym b.unequal.counted) in
    a.shows
    ∙ ap (λ k. unequal_record start range k (sizes_of (take k a.unequal.streams)) (length bytes)) stream
    ∙ ap (λ l. unequal_record start range b.stream (sizes_of (take b.stream l)) (length bytes)) streams
    ∙ sym b.shows

streams_same : (c : Choices) (start range : ℕ) (bytes : List ℕ) (r q : Shown StreamsItem)
    → HoldsStreams c start range bytes r → HoldsStreams c start range bytes q → r ≡ q
streams_same c start range bytes r q a b =
    a.shows
    ∙ ap (λ l. packets_record c.padding start range l (length bytes))
    (streams_once a.streams b.streams bytes a.are b.are (a.counted ∙ sym b.counted))
    ∙ sym b.shows

never_unequal : (c : Choices) (start range : ℕ) (bytes : List ℕ) (r q : Shown StreamsItem)
    → HoldsStreams c start range bytes r → HoldsUnequal c.streams start range bytes q → ⊥
never_unequal c start range bytes r q a b =
    let m : IsMultistream (map (λ s. s.value) a.streams) (map (λ s. s.tail) a.streams) bytes =
    record { streams = a.streams; values_are = refl; tails_are = refl; are = a.are; duration = a.duration } in
    fault_none c.streams bytes (Unequal b.stream) (map (λ s. s.value) a.streams) (map (λ s. s.tail) a.streams) b.unequal
    (length-map a.streams (λ s. s.value) ∙ a.counted) m

-- the same bytes hold one record
pub holds_same : (c : Choices) (start range : ℕ) (bytes : List ℕ) (r q : Shown StreamsItem)
    → Holds c start range bytes r → Holds c start range bytes q → r ≡ q
holds_same c start range bytes r q (inl a) (inl b) = streams_same c start range bytes r q a b
holds_same c start range bytes r q (inl a) (inr (inl b)) =
    absurd (broken_none c.streams b.stream b.fault bytes a.streams b.broken a.are a.counted)
holds_same c start range bytes r q (inl a) (inr (inr b)) = absurd (never_unequal c start range bytes r q a b)
holds_same c start range bytes r q (inr (inl a)) (inl b) =
    absurd (broken_none c.streams a.stream a.fault bytes b.streams a.broken b.are b.counted)
holds_same c start range bytes r q (inr (inl a)) (inr (inl b)) = broken_same c.streams start range bytes r q a b
holds_same c start range bytes r q (inr (inl a)) (inr (inr b)) =
    absurd (broken_none c.streams a.stream a.fault bytes b.unequal.streams a.broken b.unequal.are b.unequal.counted)
holds_same c start range bytes r q (inr (inr a)) (inl b) = absurd (never_unequal c start range bytes q r b a)
holds_same c start range bytes r q (inr (inr a)) (inr (inl b)) =
    absurd (broken_none c.streams b.stream b.fault bytes a.unequal.streams b.broken a.unequal.are a.unequal.counted)
holds_same c start range bytes r q (inr (inr a)) (inr (inr b)) = unequal_same c.streams start range bytes r q a b

-- ---- a fault that is decided early

-- it stays, however the bytes go on
pub early_longer : (count start range : ℕ) (bytes more : List ℕ) (r : Shown StreamsItem) → AreBytes (bytes ++ more)
    → ShowsEarly count start range bytes r → ShowsEarly count start range (bytes ++ more) r
early_longer count start range bytes more r are e =
    let b = e.holds.broken in
    let f = e.holds.fault in
    let framing = framing_of count e.holds.stream in
    let stand = stand_more b.first bytes b.rest more b.stand in
    let rest_are = stand_bytes b.first bytes b.rest b.stand (AreBytes-left bytes more are) in
    let more_are = stand_bytes b.first (bytes ++ more) (b.rest ++ more) stand are in
    let less = e.early in
    let size = length-append b.rest more in
    let soon : IsEarly framing b.rest = subst (λ (g : Fault). g.place < length b.rest) b.fault_is less in
    let is : f ≡ fault_of framing (b.rest ++ more) = b.fault_is ∙ sym (early_more framing b.rest more rest_are soon) in
    let late : IsEarly framing (b.rest ++ more) =
    subst (λ (g : Fault). g.place < length (b.rest ++ more)) is (omega (arith, less, size)) in
    let place : start + sizes_of b.first + min (f.place + 1) (length b.rest)
    ≡ start + sizes_of b.first + min (f.place + 1) (length (b.rest ++ more)) = omega (arith, less, size) in
    record {
      holds = record {
        stream = e.holds.stream;
        fault = f;
        broken = record {
          first = b.first;
          rest = b.rest ++ more;
          counted = b.counted;
          within = b.within;
          stand = stand;
          none = early_none framing (b.rest ++ more) more_are late;
          fault_is = is;
        };
        shows = e.holds.shows
            ∙ ap (λ n. record_of start n range (Broken e.holds.stream (start + sizes_of b.first) f) [] []) place;
      };
      early = omega (arith, less, size);
    }

pub early_same : (count start range : ℕ) (bytes more : List ℕ) (r q : Shown StreamsItem) → AreBytes (bytes ++ more)
    → ShowsEarly count start range bytes r → ShowsEarly count start range (bytes ++ more) q → r ≡ q
early_same count start range bytes more r q are a b =
    broken_same count start range (bytes ++ more) r q
    (early_longer count start range bytes more r are a).holds b.holds

pub early_holds : (c : Choices) (start range : ℕ) (bytes : List ℕ) (r : Shown StreamsItem)
    → ShowsEarly c.streams start range bytes r → Holds c start range bytes r
early_holds c start range bytes r e = inr (inl e.holds)

-- what can become a packet has none
pub never_early : (count start range : ℕ) (bytes : List ℕ) (r : Shown StreamsItem) → AreBytes bytes
    → IsMultistreamPrefix count bytes → ShowsEarly count start range bytes r → ⊥
never_early count start range bytes r are can e =
    let b = prefix-becomes count bytes are can in
    let l = early_longer count start range bytes b.more r (AreBytes-append bytes b.more are b.are_bytes) e in
    broken_none count l.holds.stream l.holds.fault (bytes ++ b.more) b.streams l.holds.broken b.are b.counted
