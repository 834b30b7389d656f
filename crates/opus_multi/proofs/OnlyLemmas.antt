-- Bytes have one list of streams, and one fault or none.
use Rattle.std.proofs.Common.{◌≡◌, ℕ, zero, suc, ◌+◌, ◌<◌, ◌≤◌, ◌⊎◌, inl, inr, List, [], ◌∷◌, ◌++◌, length, replicate, Result, Ok, Err, IfErr, refl, ap, sym, subst, ◌∙◌, map, arith, length-append}
use Rattle.std.proofs.lemmas.List.{length-map}
use Rattle.opus_packet.specs.declared.fault.Fault.{Fault}
use Rattle.opus_packet.specs.Value.{PacketValue}
use Rattle.opus_feed.specs.declared.framing.Framing.TheVariants.{Whole, SelfDelimited}
use Rattle.opus_feed.specs.Packets.{IsNone}
use Rattle.opus_multi.specs.declared.fault.MultiFault.{MultiFault}
use Rattle.opus_multi.specs.declared.fault.MultiFault.TheVariants.{Stream, Unequal, NoMemory}
use Rattle.opus_multi.specs.Streams.{SpelledStream, BeginsWithStream, IsLastStream, AreStreams}
use Rattle.opus_multi.specs.Durations.{HaveOneDuration, IsUnequalAt}
use Rattle.opus_multi.specs.Multistream.{durations_of, IsMultistream}
use Rattle.opus_multi.specs.MultistreamFault.{framing_of, IsBroken, AreUnequal, IsMultistreamFault}
use Rattle.opus_multi.specs.Readings.{IsFaultOf, IsOkUnlessFull}
use Rattle.opus_multi.proofs.StreamsLemmas.{Follows, follow, last_one}
use Rattle.opus_multi.proofs.ReadLemmas.{lt_or_ge, framing_more, framing_end}

-- a stream that doesn't read

no_next : (count : ℕ) (k : ℕ) (rest : List ℕ) → k + 1 < count → IsNone (framing_of count k) rest
    → (s : SpelledStream) → BeginsWithStream s rest → ⊥
no_next count k rest within none s b =
    let self : IsNone SelfDelimited rest = subst (λ f. IsNone f rest) (framing_more count k within) none in
    self s.value s.shape s.size (record { within = b.within; spelled = (s.tail, b.spelled) })

no_last : (count : ℕ) (k : ℕ) (rest : List ℕ) → k + 1 ≡ count → IsNone (framing_of count k) rest
    → (s : SpelledStream) → IsLastStream s rest → ⊥
no_last count k rest last none s b =
    let whole : IsNone Whole rest = subst (λ f. IsNone f rest) (framing_end count k last) none in
    whole s.value s.shape (s.tail, b.spelled)

broken_by : (count k : ℕ) (first front : List SpelledStream) (rest other : List ℕ) (last : SpelledStream)
    → length first ≡ k → length front + 1 ≡ count → IsNone (framing_of count k) rest → IsLastStream last other
    → Follows first front rest other → ⊥
broken_by count k first front rest other last counted all none ends (inl p) =
    no_next count k rest (omega (arith, counted, all, p.0)) none p.1.0 p.1.1
broken_by count k first front rest other last counted all none ends (inr p) =
    no_last count k rest (omega (arith, counted, all, ap length p.0)) none last (rw p.1 ends)

pub broken_none : (count k : ℕ) (f : Fault) (bytes : List ℕ) (ss : List SpelledStream) → IsBroken count bytes k f
    → AreStreams ss bytes → length ss ≡ count → ⊥
broken_none count k f bytes ss b a counted =
    let all : length a.front + 1 ≡ count = omega (arith, counted, ap length a.streams_are, length-append a.front (a.last ∷ [])) in
    broken_by count k b.first a.front b.rest a.rest a.last b.counted all b.none a.ends
    (follow b.first a.front bytes b.rest a.rest (omega (arith, all, b.counted, b.within)) b.stand a.stand)

-- one list of streams

once_by : (first front : List SpelledStream) (rest other : List ℕ) (s t : SpelledStream) → length first ≡ length front
    → IsLastStream s rest → IsLastStream t other → Follows first front rest other → first ++ s ∷ [] ≡ front ++ t ∷ []
once_by first front rest other s t same a b (inl p) = absurd (omega (arith, same, p.0))
once_by first front rest other s t same a b (inr p) =
    rw (p.0, last_one s t rest a (rw p.1 b)) refl

pub streams_once : (ss ts : List SpelledStream) (bytes : List ℕ) → AreStreams ss bytes → AreStreams ts bytes
    → length ss ≡ length ts → ss ≡ ts
streams_once ss ts bytes a b same =
    let counted : length a.front ≡ length b.front = omega (arith, same, ap length a.streams_are, ap length b.streams_are, length-append a.front (a.last ∷ []), length-append b.front (b.last ∷ [])) in
    rw (a.streams_are, b.streams_are) (once_by a.front b.front a.rest b.rest a.last b.last counted a.ends b.ends
    (follow a.front b.front bytes a.rest b.rest (omega (arith, counted)) a.stand b.stand))

-- durations

one_first : (n d first : ℕ) (xs : List ℕ) → replicate n d ≡ first ∷ xs → first ≡ d
one_first zero d first xs e = absurd cc
one_first (suc n) d first xs e = cc

one_within : (xs : List ℕ) (n d other : ℕ) (rest : List ℕ) → replicate n d ≡ xs ++ other ∷ rest → other ≡ d
one_within [] n d other rest e = one_first n d other rest e
one_within (x ∷ xs) zero d other rest e = absurd cc
one_within (x ∷ xs) (suc n) d other rest e = one_within xs n d other rest cc

differ_first : (k n d first other : ℕ) (rest : List ℕ) → 1 ≤ k → replicate n d ≡ replicate k first ++ other ∷ rest → first ≡ d
differ_first zero n d first other rest some e = absurd (omega (arith, some))
differ_first (suc k) n d first other rest some e = one_first n d first (replicate k first ++ other ∷ rest) e

pub unequal_never : (ds : List ℕ) (k : ℕ) → IsUnequalAt ds k → HaveOneDuration ds → ⊥
unequal_never ds k u one =
    let e : replicate (length ds) one.0 ≡ replicate k u.first ++ u.other ∷ u.rest = rw (sym one.1) u.are in
    u.differs (rw (one_within (replicate k u.first) (length ds) one.0 u.other u.rest e, differ_first k (length ds) one.0 u.first u.other u.rest u.some e) refl)

-- the first other one has one place
one_place : (j k a x y : ℕ) (xs ys : List ℕ) → replicate j a ++ x ∷ xs ≡ replicate k a ++ y ∷ ys → (x ≡ a → ⊥) → (y ≡ a → ⊥)
    → j ≡ k
one_place zero zero a x y xs ys e nx ny = refl
one_place zero (suc k) a x y xs ys e nx ny = let h : x ≡ a = cc in absurd (nx h)
one_place (suc j) zero a x y xs ys e nx ny = let h : y ≡ a = cc in absurd (ny h)
one_place (suc j) (suc k) a x y xs ys e nx ny = ap suc (one_place j k a x y xs ys (cc) nx ny)

one_start : (j k a b x y : ℕ) (xs ys : List ℕ) → 1 ≤ j → 1 ≤ k → replicate j a ++ x ∷ xs ≡ replicate k b ++ y ∷ ys → a ≡ b
one_start zero k a b x y xs ys sj sk e = absurd (omega (arith, sj))
one_start (suc j) zero a b x y xs ys sj sk e = absurd (omega (arith, sk))
one_start (suc j) (suc k) a b x y xs ys sj sk e = cc

pub unequal_once : (ds : List ℕ) (j k : ℕ) → IsUnequalAt ds j → IsUnequalAt ds k → j ≡ k
unequal_once ds j k u v =
    let e : replicate j u.first ++ u.other ∷ u.rest ≡ replicate k v.first ++ v.other ∷ v.rest = rw (sym u.are) v.are in
    let same = one_start j k u.first v.first u.other v.other u.rest v.rest u.some v.some e in
    one_place j k v.first u.other v.other u.rest v.rest (rw same at e) (rw same at u.differs) v.differs

unequal_none : (count k : ℕ) (bytes : List ℕ) (ss : List SpelledStream) → AreUnequal count bytes k → AreStreams ss bytes
    → length ss ≡ count → HaveOneDuration (durations_of ss) → ⊥
unequal_none count k bytes ss u a counted one =
    let same = streams_once u.streams ss bytes u.are a (rw (u.counted, counted) refl) in
    unequal_never (durations_of ss) k (rw (sym same) u.unequal) one

-- a multistream packet has no fault but want of memory

no_fault : {A : Type 0} (count : ℕ) (bytes : List ℕ) (ss : List SpelledStream) (r : Result A MultiFault)
    → IfErr r (λ f. IsFaultOf count bytes f) → AreStreams ss bytes → length ss ≡ count → HaveOneDuration (durations_of ss)
    → IsOkUnlessFull r
no_fault count bytes ss (Ok x) faults a counted one = tt
no_fault count bytes ss (Err (Stream k f)) faults a counted one = broken_none count k f bytes ss faults a counted
no_fault count bytes ss (Err (Unequal k)) faults a counted one = unequal_none count k bytes ss faults a counted one
no_fault count bytes ss (Err NoMemory) faults a counted one = tt

pub read_unless_full : {A : Type 0} (count : ℕ) (bytes : List ℕ) (r : Result A MultiFault)
    → IfErr r (λ f. IsFaultOf count bytes f) → (vs : List PacketValue) (qs : List (List ℕ)) → length vs ≡ count
    → IsMultistream vs qs bytes → IsOkUnlessFull r
read_unless_full count bytes r faults vs qs counted m =
    no_fault count bytes m.streams r faults m.are (rw (sym (length-map m.streams (λ s. s.value)), sym m.values_are) counted) m.duration

pub broken_only : (count k : ℕ) (f : Fault) (bytes : List ℕ) → IsBroken count bytes k f
    → (vs : List PacketValue) (qs : List (List ℕ)) → length vs ≡ count → IsMultistream vs qs bytes → ⊥
broken_only count k f bytes b vs qs counted m =
    broken_none count k f bytes m.streams b m.are (rw (sym (length-map m.streams (λ s. s.value)), sym m.values_are) counted)

-- one fault

same_broken : (count : ℕ) (bytes : List ℕ) (j k : ℕ) (f g : Fault) → (a : IsBroken count bytes j f) → (b : IsBroken count bytes k g)
    → Follows a.first b.first a.rest b.rest → (j ≡ k) × (f ≡ g)
same_broken count bytes j k f g a b (inl p) =
    absurd (no_next count j a.rest (omega (arith, a.counted, b.counted, b.within, p.0)) a.none p.1.0 p.1.1)
same_broken count bytes j k f g a b (inr p) =
    let places : j ≡ k = sym a.counted ∙ ap length p.0 ∙ b.counted in
    (places, a.fault_is ∙ rw (places, p.1) refl ∙ sym b.fault_is)

broken_once : (count : ℕ) (bytes : List ℕ) (j k : ℕ) (f g : Fault) → IsBroken count bytes j f → IsBroken count bytes k g
    → (j ≡ k) × (f ≡ g)
broken_once count bytes j k f g a b = go (lt_or_ge j k)
  where
    go : (j < k) ⊎ (k ≤ j) → (j ≡ k) × (f ≡ g)
    go (inl less) = same_broken count bytes j k f g a b (follow a.first b.first bytes a.rest b.rest (omega (arith, less, a.counted, b.counted)) a.stand b.stand)
    go (inr le) =
        let same = same_broken count bytes k j g f b a (follow b.first a.first bytes b.rest a.rest (omega (arith, le, a.counted, b.counted)) b.stand a.stand) in
        (sym same.0, sym same.1)

pub fault_once : (count : ℕ) (bytes : List ℕ) (f g : MultiFault) → IsMultistreamFault count bytes f
    → IsMultistreamFault count bytes g → f ≡ g
fault_once count bytes (Stream j f) (Stream k g) a b = let same = broken_once count bytes j k f g a b in rw (same.0, same.1) refl
fault_once count bytes (Stream j f) (Unequal k) a b = absurd (broken_none count j f bytes b.streams a b.are b.counted)
fault_once count bytes (Stream j f) NoMemory a b = absurd b
fault_once count bytes (Unequal j) (Stream k g) a b = absurd (broken_none count k g bytes a.streams b a.are a.counted)
fault_once count bytes (Unequal j) (Unequal k) a b =
    let same = streams_once b.streams a.streams bytes b.are a.are (b.counted ∙ sym a.counted) in
    ap Unequal (unequal_once (durations_of a.streams) j k a.unequal (rw same at b.unequal))
fault_once count bytes (Unequal j) NoMemory a b = absurd b
fault_once count bytes NoMemory g a b = absurd a

pub fault_none : (count : ℕ) (bytes : List ℕ) (f : MultiFault) (vs : List PacketValue) (qs : List (List ℕ))
    → IsMultistreamFault count bytes f → length vs ≡ count → IsMultistream vs qs bytes → ⊥
fault_none count bytes (Stream k f) vs qs a counted m = broken_only count k f bytes a vs qs counted m
fault_none count bytes (Unequal k) vs qs a counted m =
    unequal_none count k bytes m.streams a m.are (rw (sym (length-map m.streams (λ s. s.value)), sym m.values_are) counted) m.duration
fault_none count bytes NoMemory vs qs a counted m = absurd a

-- one list of values

same_streams : (vs ws : List PacketValue) (qs rs : List (List ℕ)) (bytes : List ℕ) → length vs ≡ length ws
    → (m : IsMultistream vs qs bytes) → (n : IsMultistream ws rs bytes) → m.streams ≡ n.streams
same_streams vs ws qs rs bytes same m n =
    streams_once m.streams n.streams bytes m.are n.are
    (sym (length-map m.streams (λ s. s.value)) ∙ ap length (sym m.values_are) ∙ same ∙ ap length n.values_are ∙ length-map n.streams (λ s. s.value))

pub values_once : (vs ws : List PacketValue) (qs rs : List (List ℕ)) (bytes : List ℕ) → length vs ≡ length ws
    → IsMultistream vs qs bytes → IsMultistream ws rs bytes → vs ≡ ws
values_once vs ws qs rs bytes same m n =
    m.values_are ∙ ap (map (λ s. s.value)) (same_streams vs ws qs rs bytes same m n) ∙ sym n.values_are

pub tails_once : (vs ws : List PacketValue) (qs rs : List (List ℕ)) (bytes : List ℕ) → length vs ≡ length ws
    → IsMultistream vs qs bytes → IsMultistream ws rs bytes → qs ≡ rs
tails_once vs ws qs rs bytes same m n =
    m.tails_are ∙ ap (map (λ s. s.tail)) (same_streams vs ws qs rs bytes same m n) ∙ sym n.tails_are
