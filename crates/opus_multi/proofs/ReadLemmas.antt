-- What reading the streams one after another gives.
use Rattle.std.proofs.Common.{◌≡◌, ℕ, suc, ◌+◌, ◌-◌, ◌<◌, ◌≤◌, ◌⊎◌, inl, inr, Bool, true, false, nat_lt, List, [], ◌∷◌, ◌++◌, length, take, drop, map, Option, Some, None, refl, ap, sym, ◌∙◌, arith, length-append, lt-ltb, le-ltb, ltb-true, ltb-false, replicate}
use Rattle.std.proofs.lemmas.List.{map_push, length-replicate}
use Rattle.opus_packet.specs.declared.shape.Shape.{Shape}
use Rattle.opus_packet.specs.declared.fault.Fault.{Fault}
use Rattle.opus_packet.specs.Value.{PacketValue, duration_of}
use Rattle.opus_packet.specs.PacketGrammar.{Spells}
use Rattle.opus_packet.specs.PacketFault.{packet_fault}
use Rattle.opus_packet.specs.SelfPrefix.{self_delimited_fault}
use Rattle.opus_packet.specs.HasTail.{HasTail}
use Rattle.opus_packet.specs.Read.{PacketRead}
use Rattle.opus_self.specs.HasSelfTail.{HasSelfTail}
use Rattle.opus_self.specs.BecomesSelf.{BeginsWithNone}
use Rattle.opus_feed.specs.declared.framing.Framing.TheVariants.{Whole, SelfDelimited}
use Rattle.opus_multi.specs.declared.durations.Durations.{Durations}
use Rattle.opus_multi.specs.Streams.{SpelledStream, AreStreams}
use Rattle.opus_multi.specs.Durations.{HaveOneDuration, IsUnequalAt}
use Rattle.opus_multi.specs.Told.{Told, Says}
use Rattle.opus_multi.specs.Multistream.{durations_of}
use Rattle.opus_multi.specs.MultistreamFault.{framing_of, IsBroken, AreUnequal}
use Rattle.opus_multi.specs.Readings.{stream_read, AreRead, ReadFirst, ReadSoFar}
use Rattle.opus_multi.proofs.StreamsLemmas.{stand_push}

pub lt_or_ge : (m n : ℕ) → (m < n) ⊎ (n ≤ m)
lt_or_ge m n = by_test (nat_lt m n) refl
  where
    by_test : (b : Bool) → nat_lt m n ≡ b → (m < n) ⊎ (n ≤ m)
    by_test true e = inl (ltb-true m n e)
    by_test false e = inr (ltb-false m n e)

-- which stream is the last

pub framing_last : (count : ℕ) → 1 ≤ count → framing_of count (count - 1) ≡ Whole
framing_last count some = rw (le-ltb (count - 1 + 1) count (omega (arith, some))) refl

pub framing_past : (count k : ℕ) → count ≤ k + 1 → framing_of count k ≡ Whole
framing_past count k past = rw (le-ltb (k + 1) count (omega (arith, past))) refl

pub framing_end : (count k : ℕ) → k + 1 ≡ count → framing_of count k ≡ Whole
framing_end count k last = rw (le-ltb (k + 1) count (omega (arith, last))) refl

pub framing_more : (count k : ℕ) → k + 1 < count → framing_of count k ≡ SelfDelimited
framing_more count k more = rw (lt-ltb (k + 1) count more) refl

-- durations

pub length-durations : (ss : List SpelledStream) → length (durations_of ss) ≡ length ss
length-durations [] = refl
length-durations (s ∷ ss) = ap suc (length-durations ss)

says_one : (first : ℕ) (other : Option ℕ) (ds : List ℕ) → Says first other ds → other ≡ None → HaveOneDuration ds
says_one first None ds says none = (first, says)
says_one first (Some k) ds says none = absurd cc

says_other : (first k : ℕ) (other : Option ℕ) (ds : List ℕ) → Says first other ds → other ≡ Some k → IsUnequalAt ds k
says_other first k None ds says some = absurd cc
says_other first k (Some n) ds says some = let e : n ≡ k = cc in
    rw (sym e) (record { first = first; other = says.1.0; rest = says.1.1; some = says.0; differs = says.1.2; are = says.1.3 })

pub told_one : (d : Durations) (ds : List ℕ) → Told d ds → d.other ≡ None → HaveOneDuration ds
told_one d ds told none = says_one d.first d.other ds told none

pub told_other : (d : Durations) (k : ℕ) (ds : List ℕ) → Told d ds → d.other ≡ Some k → IsUnequalAt ds k
told_other d k ds told some = says_other d.first k d.other ds told some

-- the place lies among them
pub unequal_within : (ds : List ℕ) (k : ℕ) → IsUnequalAt ds k → k < length ds
unequal_within ds k u =
    omega (arith, ap length u.are, length-append (replicate k u.first) (u.other ∷ u.rest), length-replicate k u.first)

-- one stream

pub read_more : (k used : ℕ) (bytes rest : List ℕ) (old new : Durations) (packets : List PacketRead) (p : PacketRead)
    → used ≤ length rest → p.size ≡ used → HasSelfTail p (take used rest)
    → ((ds : List ℕ) → length ds ≡ k → Told old ds → Told new (ds ++ duration_of p.value ∷ []))
    → ReadFirst k bytes rest old packets → ReadFirst (k + 1) bytes (drop used rest) new (packets ++ p ∷ [])
read_more k used bytes rest old new packets p within size h told r =
    let s : SpelledStream = record { value = p.value; shape = p.shape; size = used; tail = h.0 } in
    let is : p ≡ stream_read s = rw (sym size, sym h.2) in
    record {
      first = r.first ++ s ∷ [];
      counted = omega (arith, length-append r.first (s ∷ []), r.counted);
      packets_are = rw (map_push stream_read r.first s, sym r.packets_are, sym is);
      stand = stand_push r.first bytes rest s r.stand (record { within = within; spelled = h.1 });
      told = rw (map_push (λ (t : SpelledStream). duration_of t.value) r.first s) (told (durations_of r.first) (rw (length-durations r.first) r.counted) r.told);
    }

pub so_far_more : (k used : ℕ) (bytes rest : List ℕ) (old new : Durations) (full after : Bool)
    (packets kept : List PacketRead) (p : PacketRead) → used ≤ length rest → p.size ≡ used → HasSelfTail p (take used rest)
    → ((ds : List ℕ) → length ds ≡ k → Told old ds → Told new (ds ++ duration_of p.value ∷ []))
    → (after ≡ false → full ≡ false) → (after ≡ false → kept ≡ packets ++ p ∷ [])
    → ReadSoFar k bytes rest old full packets → ReadSoFar (k + 1) bytes (drop used rest) new after kept
so_far_more k used bytes rest old new full after packets kept p within size h told before is r = record {
  all = r.all ++ p ∷ [];
  read = read_more k used bytes rest old new r.all p within size h told r.read;
  kept = λ e. is e ∙ ap (λ (ps : List PacketRead). ps ++ p ∷ []) (r.kept (before e));
}

-- a stream that doesn't read
pub broken_self : (count k : ℕ) (bytes rest : List ℕ) (d : Durations) (packets : List PacketRead) (f : Fault)
    → k + 1 < count → ReadFirst k bytes rest d packets → BeginsWithNone rest → f ≡ self_delimited_fault rest
    → IsBroken count bytes k f
broken_self count k bytes rest d packets f within r none fault = record {
  first = r.first;
  rest = rest;
  counted = r.counted;
  within = omega (arith, within);
  stand = r.stand;
  none = rw (framing_more count k within) none;
  fault_is = rw (framing_more count k within) fault;
}

pub broken_last : (count : ℕ) (bytes rest : List ℕ) (d : Durations) (packets : List PacketRead) (f : Fault)
    → 1 ≤ count → ReadFirst (count - 1) bytes rest d packets → ((v : PacketValue) (s : Shape) → Spells v s rest → ⊥)
    → f ≡ packet_fault rest → IsBroken count bytes (count - 1) f
broken_last count bytes rest d packets f some r none fault = record {
  first = r.first;
  rest = rest;
  counted = r.counted;
  within = omega (arith, some);
  stand = r.stand;
  none = rw (framing_last count some) none;
  fault_is = rw (framing_last count some) fault;
}

-- all streams

-- the packets of all streams, and what was told of their durations
pub record AllRead (count : ℕ) (bytes : List ℕ) (d : Durations) (packets : List PacketRead) : Type 0 where
  pub streams : List SpelledStream
  pub counted : length streams ≡ count
  pub packets_are : packets ≡ map stream_read streams
  pub are : AreStreams streams bytes
  pub told : Told d (durations_of streams)

pub read_last : (count : ℕ) (bytes rest : List ℕ) (old new : Durations) (packets : List PacketRead) (p : PacketRead)
    → 1 ≤ count → p.size ≡ length rest → HasTail p rest
    → ((ds : List ℕ) → length ds ≡ count - 1 → Told old ds → Told new (ds ++ duration_of p.value ∷ []))
    → ReadFirst (count - 1) bytes rest old packets → AllRead count bytes new (packets ++ p ∷ [])
read_last count bytes rest old new packets p some size h told r =
    let s : SpelledStream = record { value = p.value; shape = p.shape; size = p.size; tail = h.0 } in
    let is : p ≡ stream_read s = rw (sym h.2) in
    record {
      streams = r.first ++ s ∷ [];
      counted = omega (arith, length-append r.first (s ∷ []), r.counted, some);
      packets_are = rw (map_push stream_read r.first s, sym r.packets_are, sym is);
      are = record { front = r.first; last = s; rest = rest; streams_are = refl; stand = r.stand; ends = record { size_is = size; spelled = h.1 } };
      told = rw (map_push (λ (t : SpelledStream). duration_of t.value) r.first s) (told (durations_of r.first) (rw (length-durations r.first) r.counted) r.told);
    }

pub all_equal : (count : ℕ) (bytes : List ℕ) (d : Durations) (packets : List PacketRead) → AllRead count bytes d packets
    → d.other ≡ None → AreRead count bytes packets
all_equal count bytes d packets r none = record {
  streams = r.streams;
  counted = r.counted;
  packets_are = r.packets_are;
  are = r.are;
  duration = told_one d (durations_of r.streams) r.told none;
}

pub all_unequal : (count k place : ℕ) (bytes : List ℕ) (d : Durations) (packets : List PacketRead)
    → AllRead count bytes d packets → d.other ≡ Some k → (k < count → place ≡ k) → AreUnequal count bytes place
all_unequal count k place bytes d packets r some is =
    let u = told_other d k (durations_of r.streams) r.told some in
    let within = unequal_within (durations_of r.streams) k u in
    rw (is (omega (arith, within, length-durations r.streams, r.counted)))
    (record { streams = r.streams; counted = r.counted; are = r.are; unequal = u })
