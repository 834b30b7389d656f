-- Each list of bytes is the packets of so many streams, or one of them doesn't read; and all last as long, or one differs.
use Rattle.std.proofs.Common.{◌≡◌, ◌⊎◌, inl, inr, ℕ, zero, suc, ◌+◌, ◌<◌, ◌≤◌, List, [], ◌∷◌, ◌++◌, length, drop, replicate, length-append, refl, sym, ap, ◌∙◌, subst, arith}
use Rattle.std.proofs.lemmas.Bool.{cases_eq}
use Rattle.opus_packet.specs.declared.fault.Fault.{Fault}
use Rattle.opus_packet.specs.PacketPrefix.{AreBytes}
use Rattle.opus_packet.proofs.BytesLemmas.{AreBytes-drop}
use Rattle.opus_feed.specs.declared.framing.Framing.TheVariants.{Whole, SelfDelimited}
use Rattle.opus_feed.specs.Packets.{IsNone, fault_of}
use Rattle.opus_multi.specs.Streams.{SpelledStream, BeginsWithStream, StandFirst, AreStreams}
use Rattle.opus_multi.specs.Durations.{HaveOneDuration, IsUnequalAt}
use Rattle.opus_multi.specs.MultistreamFault.{framing_of, IsBroken}
use Rattle.opus_multi.proofs.ReadLemmas.{framing_end, framing_more}
use Rattle.opus_multi.proofs.StreamsLemmas.{stand_push}
use Rattle.pack_records.proofs.PacketKinds.{IsWhole, whole_or_none, BeginsWithSome, begins_or_none}

-- ---- streams

pub data StreamKinds (count : ℕ) (bytes : List ℕ) : Type 0 where
  all_read : (ss : List SpelledStream) → length ss ≡ count → AreStreams ss bytes → StreamKinds count bytes
  one_broken : (k : ℕ) (f : Fault) → IsBroken count bytes k f → StreamKinds count bytes

-- the stream behind those that stand first doesn't read
next_broken : (count : ℕ) (bytes rest : List ℕ) (first : List SpelledStream) → length first < count
    → StandFirst first bytes rest → IsNone (framing_of count (length first)) rest → StreamKinds count bytes
next_broken count bytes rest first within stand none =
    one_broken (length first) (fault_of (framing_of count (length first)) rest) record {
      first = first;
      rest = rest;
      counted = refl;
      within = within;
      stand = stand;
      none = none;
      fault_is = refl;
    }

last_kind : (count : ℕ) (bytes rest : List ℕ) (first : List SpelledStream) → length first + 1 ≡ count
    → StandFirst first bytes rest → IsWhole rest ⊎ IsNone Whole rest → StreamKinds count bytes
last_kind count bytes rest first last stand (inr none) =
    next_broken count bytes rest first (omega (arith, last)) stand
    (subst (λ f. IsNone f rest) (sym (framing_end count (length first) last)) none)
last_kind count bytes rest first last stand (inl w) =
    all_read (first ++ s ∷ []) (omega (arith, last, length-append first (s ∷ []))) record {
      front = first;
      last = s;
      rest = rest;
      streams_are = refl;
      stand = stand;
      ends = record { size_is = refl; spelled = w.spells.1 };
    }
  where
    s : SpelledStream
    s = record { value = w.value; shape = w.shape; size = length rest; tail = w.spells.0 }

next_kind : (count : ℕ) (bytes rest : List ℕ) (first : List SpelledStream) → length first + 1 < count
    → StandFirst first bytes rest
    → ((s : SpelledStream) → BeginsWithStream s rest → StreamKinds count bytes)
    → BeginsWithSome rest ⊎ IsNone SelfDelimited rest → StreamKinds count bytes
next_kind count bytes rest first more stand deeper (inr none) =
    next_broken count bytes rest first (omega (arith, more)) stand
    (subst (λ f. IsNone f rest) (sym (framing_more count (length first) more)) none)
next_kind count bytes rest first more stand deeper (inl b) =
    deeper (record { value = b.value; shape = b.shape; size = b.used; tail = b.begins.spelled.0 })
    (record { within = b.begins.within; spelled = b.begins.spelled.1 })

kinds_behind : (left count : ℕ) (bytes rest : List ℕ) (first : List SpelledStream) → length first + suc left ≡ count
    → StandFirst first bytes rest → AreBytes rest → StreamKinds count bytes
kinds_behind zero count bytes rest first last stand are =
    last_kind count bytes rest first (omega (arith, last)) stand (whole_or_none rest are)
kinds_behind (suc left) count bytes rest first more stand are =
    next_kind count bytes rest first (omega (arith, more)) stand
    (λ s begins. kinds_behind left count bytes (drop s.size rest) (first ++ s ∷ [])
    (omega (arith, more, length-append first (s ∷ []))) (stand_push first bytes rest s stand begins)
    (AreBytes-drop s.size rest are)) (begins_or_none rest are)

pub stream_kinds : (count : ℕ) (bytes : List ℕ) → 1 ≤ count → AreBytes bytes → StreamKinds count bytes
stream_kinds zero bytes some are = absurd (omega (arith, some))
stream_kinds (suc left) bytes some are = kinds_behind left (suc left) bytes bytes [] (omega arith) refl are

-- ---- durations

-- all are one, or so many are and then comes another
data Repeats (d : ℕ) (ds : List ℕ) : Type 0 where
  all_same : ds ≡ replicate (length ds) d → Repeats d ds
  then_other : (k other : ℕ) (rest : List ℕ) → (other ≡ d → ⊥) → ds ≡ replicate k d ++ other ∷ rest → Repeats d ds

repeats : (d : ℕ) (ds : List ℕ) → Repeats d ds
repeats d [] = all_same refl
repeats d (x ∷ xs) = go (cases_eq x d) (repeats d xs)
  where
    go : (x ≡ d) ⊎ (x ≡ d → ⊥) → Repeats d xs → Repeats d (x ∷ xs)
    go (inr other) deeper = then_other 0 x xs other refl
    go (inl same) (all_same are) = all_same (ap (λ y. y ∷ xs) same ∙ ap (λ l. d ∷ l) are)
    go (inl same) (then_other k other rest differs are) =
        then_other (suc k) other rest differs (ap (λ y. y ∷ xs) same ∙ ap (λ l. d ∷ l) are)

pub duration_kinds : (ds : List ℕ) → HaveOneDuration ds ⊎ ((k : ℕ) × IsUnequalAt ds k)
duration_kinds [] = inl (0, refl)
duration_kinds (d ∷ ds) = go (repeats d ds)
  where
    go : Repeats d ds → HaveOneDuration (d ∷ ds) ⊎ ((k : ℕ) × IsUnequalAt (d ∷ ds) k)
    go (all_same are) = inl (d, ap (λ l. d ∷ l) are)
    go (then_other k other rest differs are) = inr (
      suc k,
      record { first = d; other = other; rest = rest; some = omega arith; differs = differs; are = ap (λ l. d ∷ l) are },
    )
