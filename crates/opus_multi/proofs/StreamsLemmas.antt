-- Streams that stand first in some bytes.
use Rattle.std.proofs.Common.{◌≡◌, ℕ, ◌<◌, ◌≤◌, ◌⊎◌, inl, inr, List, [], ◌∷◌, ◌++◌, length, take, drop, refl, ap, sym, arith, length-append}
use Rattle.std.proofs.lemmas.List.{take-append-le, drop-append-le}
use Rattle.opus_packet.specs.PacketPrefix.{AreBytes}
use Rattle.opus_packet.proofs.BytesLemmas.{AreBytes-drop}
use Rattle.opus_packet.proofs.GrammarLemmas.{IsPacket-unique}
use Rattle.opus_self.proofs.SelfLemmas.{IsSelfDelimited-unique}
use Rattle.opus_self.proofs.SelfPrefixLemmas.{begins_once}
use Rattle.opus_multi.specs.Streams.{SpelledStream, BeginsWithStream, StandFirst, IsLastStream}

-- one stream

same_stream : (s t : SpelledStream) → s.value ≡ t.value → s.shape ≡ t.shape → s.size ≡ t.size → s.tail ≡ t.tail → s ≡ t
same_stream s t value shape size tail = at_fields
  where
    at_fields : s ≡ record { value = t.value; shape = t.shape; size = t.size; tail = t.tail }
    at_fields = rw (sym value, sym shape, sym size, sym tail) refl

begins_one : (s t : SpelledStream) (bytes : List ℕ) → BeginsWithStream s bytes → BeginsWithStream t bytes → s ≡ t
begins_one s t bytes a b =
    let sizes : s.size ≡ t.size = begins_once s.value t.value s.shape t.shape s.size t.size bytes (record { within = a.within; spelled = (s.tail, a.spelled) }) (record { within = b.within; spelled = (t.tail, b.spelled) }) in
    let u = IsSelfDelimited-unique s.value t.value s.shape t.shape s.tail t.tail (take s.size bytes) a.spelled (rw sizes b.spelled) in
    same_stream s t u.0 u.1 sizes u.2

pub last_one : (s t : SpelledStream) (bytes : List ℕ) → IsLastStream s bytes → IsLastStream t bytes → s ≡ t
last_one s t bytes a b =
    let u = IsPacket-unique s.value t.value s.shape t.shape s.tail t.tail bytes a.spelled b.spelled in
    same_stream s t u.0 u.1 (rw b.size_is a.size_is) u.2

-- several

pub stand_push : (ss : List SpelledStream) (bytes rest : List ℕ) (s : SpelledStream) → StandFirst ss bytes rest
    → BeginsWithStream s rest → StandFirst (ss ++ s ∷ []) bytes (drop s.size rest)
stand_push [] bytes rest s e b = (rw e b, ap (drop s.size) e)
stand_push (t ∷ ss) bytes rest s h b = (h.0, stand_push ss (drop t.size bytes) rest s h.1 b)

pub stand_more : (ss : List SpelledStream) (bytes rest more : List ℕ) → StandFirst ss bytes rest
    → StandFirst ss (bytes ++ more) (rest ++ more)
stand_more [] bytes rest more e = ap (λ x. x ++ more) e
stand_more (s ∷ ss) bytes rest more h =
    let within = h.0.within in (
      record { within = omega (arith, within, length-append bytes more); spelled = rw (take-append-le s.size bytes more within) h.0.spelled },
      rw (drop-append-le s.size bytes more within) (stand_more ss (drop s.size bytes) rest more h.1),
    )

pub stand_bytes : (ss : List SpelledStream) (bytes rest : List ℕ) → StandFirst ss bytes rest → AreBytes bytes → AreBytes rest
stand_bytes [] bytes rest e are = rw (sym e) are
stand_bytes (s ∷ ss) bytes rest h are = stand_bytes ss (drop s.size bytes) rest h.1 (AreBytes-drop s.size bytes are)

-- behind the fewer of two lists of streams stands the next one; or both are as long, and one rest is behind them
abbrev pub Follows : List SpelledStream → List SpelledStream → List ℕ → List ℕ → Type 0
Follows ss ts rest other = ((length ss < length ts) × ((s : SpelledStream) × BeginsWithStream s rest))
    ⊎ ((ss ≡ ts) × (rest ≡ other))

follow_next : (s t : SpelledStream) (ss ts : List SpelledStream) (rest other : List ℕ) → s ≡ t → Follows ss ts rest other
    → Follows (s ∷ ss) (t ∷ ts) rest other
follow_next s t ss ts rest other same (inl p) = inl (omega (arith, p.0), p.1)
follow_next s t ss ts rest other same (inr p) = inr (rw same (ap (λ x. t ∷ x) p.0), p.1)

pub follow : (ss ts : List SpelledStream) (bytes rest other : List ℕ) → length ss ≤ length ts → StandFirst ss bytes rest
    → StandFirst ts bytes other → Follows ss ts rest other
follow [] [] bytes rest other le a b = inr (refl, rw (sym a) b)
follow [] (t ∷ ts) bytes rest other le a b = inl (omega arith, (t, rw (sym a) b.0))
follow (s ∷ ss) [] bytes rest other le a b = absurd (omega (arith, le))
follow (s ∷ ss) (t ∷ ts) bytes rest other le a b =
    let same = begins_one s t bytes a.0 b.0 in
    follow_next s t ss ts rest other same (follow ss ts (drop s.size bytes) rest other (omega (arith, le)) a.1 (rw same b.1))
