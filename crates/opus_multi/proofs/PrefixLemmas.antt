-- What some continuation makes packets of so many streams.
use Rattle.std.proofs.Common.{◌≡◌, ℕ, zero, suc, ◌+◌, ◌-◌, ◌<◌, ◌≤◌, false, ◌⊎◌, inl, inr, List, [], ◌∷◌, ◌++◌, length, take, drop, refl, ap, sym, subst, ◌∙◌, arith, length-append}
use Rattle.std.proofs.lemmas.List.{append_assoc, take-append-le, drop-append-le}
use Rattle.std.proofs.Math.Seq.{take-append-add}
use Rattle.opus_toc.specs.Configuration.{samples_of, row_of}
use Rattle.opus_packet.specs.Value.{PacketValue}
use Rattle.opus_packet.specs.Header.{header_bytes}
use Rattle.opus_packet.specs.HeaderRead.{shape_of}
use Rattle.opus_packet.specs.PacketGrammar.{IsPacket}
use Rattle.opus_packet.specs.SelfGrammar.{IsSelfDelimited}
use Rattle.opus_packet.specs.PacketPrefix.{AreBytes, IsPacketPrefix}
use Rattle.opus_packet.specs.SelfPrefix.{IsSelfDelimitedPrefix}
use Rattle.opus_packet.proofs.BytesLemmas.{AreBytes-append, AreBytes-take, AreBytes-drop, AreBytes-right}
use Rattle.opus_packet.proofs.PrefixLemmas.{becomes, prefix_of_packet}
use Rattle.opus_self.proofs.SelfPrefixLemmas.{self_becomes, prefix_of_self}
use Rattle.opus_feed.specs.Packets.{IsPrefix}
use Rattle.opus_multi.specs.Streams.{SpelledStream, BeginsWithStream, StandFirst, IsLastStream, AreStreams}
use Rattle.opus_multi.specs.MultistreamFault.{framing_of}
use Rattle.opus_multi.specs.MultistreamPrefix.{IsMultistreamPrefix, BecomesStreams}
use Rattle.opus_multi.proofs.StreamsLemmas.{stand_more, stand_bytes}
use Rattle.opus_multi.proofs.ReadLemmas.{lt_or_ge, framing_more, framing_past, framing_end}
use Rattle.opus_multi.proofs.FormsLemmas.{streams_after, streams_behind, one_stream}

-- streams of one empty frame each

empty : PacketValue
empty = record { config = 0; stereo = false; frames = [] ∷ [] }

empty-self : IsSelfDelimited empty (shape_of 0 false 0) [] (0 ∷ 0 ∷ [])
unfolding empty header_bytes samples_of row_of
empty-self = record {
  value = record { config = omega arith; some = omega arith; most = omega arith; each = (omega arith, tt); duration = omega arith };
  suits = (refl, refl, refl);
  padding = refl;
  spelled = refl;
}

empty-last : IsPacket empty (shape_of 0 false 0) [] (0 ∷ [])
unfolding empty header_bytes samples_of row_of
empty-last = record {
  value = record { config = omega arith; some = omega arith; most = omega arith; each = (omega arith, tt); duration = omega arith };
  suits = (refl, refl, refl);
  padding = refl;
  spelled = refl;
}

-- so many more streams, at least one
record Filler (count : ℕ) : Type 0 where
  bytes : List ℕ
  are_bytes : AreBytes bytes
  streams : List SpelledStream
  counted : length streams ≡ suc count
  are : AreStreams streams bytes

filler : (count : ℕ) → Filler count
filler zero =
    let s : SpelledStream = record { value = empty; shape = shape_of 0 false 0; size = 1; tail = [] } in
    record { bytes = 0 ∷ []; are_bytes = (omega arith, tt); streams = s ∷ []; counted = refl; are = one_stream s (0 ∷ []) (record { size_is = refl; spelled = empty-last }) }
filler (suc count) =
    let s : SpelledStream = record { value = empty; shape = shape_of 0 false 0; size = 2; tail = [] } in
    let f = filler count in
    record { bytes = 0 ∷ 0 ∷ f.bytes; are_bytes = (omega arith, (omega arith, f.are_bytes)); streams = s ∷ f.streams; counted = ap suc f.counted; are = streams_behind s f.streams (0 ∷ 0 ∷ []) f.bytes empty-self refl f.are }

-- which stream is the last, behind one more

framing_next : (count k : ℕ) → framing_of (suc count) (suc k) ≡ framing_of count k
framing_next count k = go (lt_or_ge (k + 1) count)
  where
    go : (k + 1 < count) ⊎ (count ≤ k + 1) → framing_of (suc count) (suc k) ≡ framing_of count k
    go (inl more) = framing_more (suc count) (suc k) (omega (arith, more)) ∙ sym (framing_more count k more)
    go (inr past) = framing_past (suc count) (suc k) (omega (arith, past)) ∙ sym (framing_past count k past)

-- a prefix becomes streams

last_becomes : (count : ℕ) (bytes : List ℕ) → AreBytes bytes → (p : IsMultistreamPrefix count bytes)
    → length p.first + 1 ≡ count → BecomesStreams count bytes
last_becomes count bytes are p last =
    let can : IsPacketPrefix p.rest = subst (λ f. IsPrefix f p.rest) (framing_end count (length p.first) last) p.can in
    let (more, are_more, is) = becomes p.rest (stand_bytes p.first bytes p.rest p.stand are) can in
    let (v, shape, spelled) = is in
    let (tail, packet) = spelled in
    let s : SpelledStream = record { value = v; shape = shape; size = length (p.rest ++ more); tail = tail } in
    record {
      more = more;
      are_bytes = are_more;
      streams = p.first ++ s ∷ [];
      counted = omega (arith, last, length-append p.first (s ∷ []));
      are = record { front = p.first; last = s; rest = p.rest ++ more; streams_are = refl; stand = stand_more p.first bytes p.rest more p.stand; ends = record { size_is = refl; spelled = packet } };
    }

next_becomes : (count : ℕ) (bytes : List ℕ) → AreBytes bytes → (p : IsMultistreamPrefix count bytes)
    → length p.first + 1 < count → BecomesStreams count bytes
next_becomes count bytes are p within =
    let can : IsSelfDelimitedPrefix p.rest = subst (λ f. IsPrefix f p.rest) (framing_more count (length p.first) within) p.can in
    let b = self_becomes p.rest (stand_bytes p.first bytes p.rest p.stand are) can in
    let more = take (b.used - length p.rest) b.more in
    let all : take b.used (p.rest ++ b.more) ≡ p.rest ++ more = rw (sym (take-append-add p.rest b.more (b.used - length p.rest))) (ap (λ n. take n (p.rest ++ b.more)) (omega (arith, b.all))) in
    let s : SpelledStream = record { value = b.value; shape = b.shape; size = length (p.rest ++ more); tail = b.begins.spelled.0 } in
    let f = filler (count - length p.first - 2) in
    record {
      more = more ++ f.bytes;
      are_bytes = AreBytes-append more f.bytes (AreBytes-take (b.used - length p.rest) b.more b.are_bytes) f.are_bytes;
      streams = p.first ++ s ∷ f.streams;
      counted = omega (arith, within, f.counted, length-append p.first (s ∷ f.streams));
      are = streams_after p.first (s ∷ f.streams) (bytes ++ (more ++ f.bytes)) (p.rest ++ (more ++ f.bytes)) (stand_more p.first bytes p.rest (more ++ f.bytes) p.stand)
          (rw (sym (append_assoc p.rest more f.bytes)) (streams_behind s f.streams (p.rest ++ more) f.bytes (rw all at b.begins.spelled.1) refl f.are));
    }

pub prefix-becomes : (count : ℕ) (bytes : List ℕ) → AreBytes bytes → IsMultistreamPrefix count bytes → BecomesStreams count bytes
prefix-becomes count bytes are p = go (lt_or_ge (length p.first + 1) count)
  where
    go : (length p.first + 1 < count) ⊎ (count ≤ length p.first + 1) → BecomesStreams count bytes
    go (inl within) = next_becomes count bytes are p within
    go (inr last) = last_becomes count bytes are p (omega (arith, last, p.within))

-- and nothing else does

prefix_next : (count : ℕ) (s : SpelledStream) (bytes : List ℕ) → BeginsWithStream s bytes
    → IsMultistreamPrefix count (drop s.size bytes) → IsMultistreamPrefix (suc count) bytes
prefix_next count s bytes b p = record {
  first = s ∷ p.first;
  rest = p.rest;
  within = omega (arith, p.within);
  stand = (b, p.stand);
  can = rw (framing_next count (length p.first)) p.can;
}

only_next : (s : SpelledStream) (front : List SpelledStream) (bytes more rest : List ℕ) → AreBytes bytes
    → AreBytes (bytes ++ more) → StandFirst (s ∷ front) (bytes ++ more) rest
    → (s.size ≤ length bytes → IsMultistreamPrefix (suc (length front)) (drop s.size bytes))
    → IsMultistreamPrefix (suc (suc (length front))) bytes
only_next s front bytes more rest are all h behind = go (lt_or_ge (length bytes) s.size)
  where
    go : (length bytes < s.size) ⊎ (s.size ≤ length bytes) → IsMultistreamPrefix (suc (suc (length front))) bytes
    go (inl short) = record {
      first = [];
      rest = bytes;
      within = omega arith;
      stand = refl;
      can = rw (framing_more (suc (suc (length front))) 0 (omega arith)) (prefix_of_self bytes are (record { more = more; are_bytes = AreBytes-right bytes more all; value = s.value; shape = s.shape; used = s.size; begins = record { within = h.0.within; spelled = (s.tail, h.0.spelled) }; all = omega (arith, short) }));
    }
    go (inr whole) = prefix_next (suc (length front)) s bytes
        (record { within = whole; spelled = rw (take-append-le s.size bytes more whole) at h.0.spelled }) (behind whole)

only_by : (front : List SpelledStream) (last : SpelledStream) (bytes more rest : List ℕ) → AreBytes bytes
    → AreBytes (bytes ++ more) → StandFirst front (bytes ++ more) rest → IsLastStream last rest
    → IsMultistreamPrefix (suc (length front)) bytes
only_by [] last bytes more rest are all e ends = record {
  first = [];
  rest = bytes;
  within = omega arith;
  stand = refl;
  can = prefix_of_packet bytes more all (last.value, last.shape, (last.tail, rw e ends.spelled));
}
only_by (s ∷ front) last bytes more rest are all h ends =
    let behind = drop s.size bytes in
    let are_behind = AreBytes-drop s.size bytes are in
    only_next s front bytes more rest are all h
    (λ whole. only_by front last behind more rest are_behind (AreBytes-append behind more are_behind (AreBytes-right bytes more all)) (rw (drop-append-le s.size bytes more whole) at h.1) ends)

pub becomes-prefix : (count : ℕ) (bytes : List ℕ) → AreBytes bytes → BecomesStreams count bytes → IsMultistreamPrefix count bytes
becomes-prefix count bytes are b =
    let a = b.are in
    let counted : suc (length a.front) ≡ count = omega (arith, b.counted, ap length a.streams_are, length-append a.front (a.last ∷ [])) in
    rw counted at (only_by a.front a.last bytes b.more a.rest are (AreBytes-append bytes b.more are b.are_bytes) a.stand a.ends)
