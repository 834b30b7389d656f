-- The packets that stand one after another in some bytes, and their values.
use Rattle.std.proofs.Common.{◌≡◌, ℕ, zero, suc, ◌+◌, ◌<◌, ◌≤◌, List, [], ◌∷◌, ◌++◌, length, take, drop, map, length-append, Option, Some, None, IfSome, option_map, Result, Ok, Err, IfOk, refl, sym, ap, ◌∙◌, subst, take_all, arith}
use Rattle.std.proofs.lemmas.List.{length-map}
use Rattle.std.specs.Result.{IsOkAnd, result_ok}
use Rattle.opus_packet.specs.declared.shape.Shape.{Shape}
use Rattle.opus_packet.specs.Value.{PacketValue}
use Rattle.opus_packet.specs.PacketGrammar.{IsPacket}
use Rattle.opus_packet.specs.PacketPrefix.{AreBytes}
use Rattle.opus_packet.specs.SelfGrammar.{IsSelfDelimited, BeginsWithSelf}
use Rattle.opus_packet.proofs.BytesLemmas.{AreBytes-take}
use Rattle.opus_self.proofs.SelfLemmas.{begins_only}
use Rattle.opus_multi.specs.Streams.{SpelledStream, StandFirst, IsLastStream, AreStreams}
use Rattle.opus_feed.specs.declared.framing.Framing.TheVariants.{Whole, SelfDelimited}
use Rattle.pack_records.specs.Lent.{lent_value}
use Rattle.pack_records.proofs.LentLemmas.{lent_value-spelled, lent_value-only}
use Rattle.job_loop.specs.Shown.{Shown}
use Rattle.stream_records.specs.declared.item.StreamsItem.{StreamsItem}
use Rattle.stream_records.specs.Holds.{Choices, HoldsStreams}
use Rattle.stream_records.proofs.LentLemmas.{lent_values}
use Rattle.stream_jobs.specs.StreamsIn.{framing_before, told_size, first_size, first_value, first_then, streams_in}

-- framings

pub framing-last : (behind : ℕ) → behind ≤ 0 → framing_before behind ≡ Whole
framing-last zero none = refl
framing-last (suc behind) none = absurd (omega (arith, none))

pub framing-other : (behind : ℕ) → 0 < behind → framing_before behind ≡ SelfDelimited
framing-other zero some = absurd (omega (arith, some))
framing-other (suc behind) some = refl

-- a self-delimited packet that stands first

pub begins-size : (v : PacketValue) (s : Shape) (used : ℕ) (bytes : List ℕ) → BeginsWithSelf v s used bytes
    → used ≡ first_size SelfDelimited bytes
begins-size v s used bytes b =
    let at = begins_only v s used bytes b in at.used_is ∙ sym (ap told_size at.read)

pub begins-value : (v : PacketValue) (s : Shape) (used : ℕ) (bytes : List ℕ) → BeginsWithSelf v s used bytes
    → Some v ≡ first_value SelfDelimited bytes
unfolding first_value
begins-value v s used bytes b =
    sym (lent_value-spelled SelfDelimited v s b.spelled.0 (take used bytes) b.spelled.1)
    ∙ ap (λ n. lent_value SelfDelimited (take n bytes)) (begins-size v s used bytes b)

-- a front of the bytes that isn't longer than they are
front : (n : ℕ) (bytes : List ℕ) → (used : ℕ) × (used ≤ length bytes) × (take n bytes ≡ take used bytes)
front zero bytes = (0, omega arith, refl)
front (suc n) [] = (0, omega arith, refl)
front (suc n) (b ∷ bytes) =
    let (used, within, is) = front n bytes in (suc used, omega (arith, within), ap (λ l. b ∷ l) is)

none_first : (bytes : List ℕ) → AreBytes bytes
    → ((v : PacketValue) (s : Shape) (used : ℕ) → BeginsWithSelf v s used bytes → ⊥)
    → None ≡ first_value SelfDelimited bytes
unfolding first_value
none_first bytes are none = go (lent_value SelfDelimited own) refl
  where
    own : List ℕ
    own = take (first_size SelfDelimited bytes) bytes

    go : (o : Option PacketValue) → lent_value SelfDelimited own ≡ o → None ≡ o
    go None is = refl
    go (Some v) is =
        let (s, tail, p) = lent_value-only SelfDelimited v own (AreBytes-take (first_size SelfDelimited bytes) bytes are) is in
        let (used, within, same) = front (first_size SelfDelimited bytes) bytes in
        absurd (none v s used record { within = within; spelled = (tail, subst (IsSelfDelimited v s tail) same p) })

pub self_value : {R E : Type 0} → (value : R → PacketValue) (shape : R → Shape) (used : R → ℕ) (bytes : List ℕ)
    → AreBytes bytes → (r : Result R E) → IfOk r (λ p. BeginsWithSelf (value p) (shape p) (used p) bytes)
    → ((v : PacketValue) (s : Shape) (n : ℕ) → BeginsWithSelf v s n bytes
    → IsOkAnd r (λ p. (value p ≡ v) × (shape p ≡ s) × (used p ≡ n)))
    → option_map value (result_ok r) ≡ first_value SelfDelimited bytes
self_value value shape used bytes are (Ok p) found only = begins-value (value p) (shape p) (used p) bytes found
self_value value shape used bytes are (Err e) found only = none_first bytes are only

pub self_used : {R E : Type 0} → (value : R → PacketValue) (shape : R → Shape) (used : R → ℕ) (bytes : List ℕ)
    → (r : Result R E) → IfOk r (λ p. BeginsWithSelf (value p) (shape p) (used p) bytes)
    → IfSome (result_ok r) (λ p. used p ≡ first_size SelfDelimited bytes)
self_used value shape used bytes (Ok p) found = begins-size (value p) (shape p) (used p) bytes found
self_used value shape used bytes (Err e) found = tt

-- an undelimited packet

pub whole-value : (bytes : List ℕ) → lent_value Whole bytes ≡ first_value Whole bytes
unfolding first_value
whole-value bytes = ap (lent_value Whole) (sym (take_all (length bytes) bytes (omega arith)))

-- several

pub streams-first : (left behind : ℕ) (bytes : List ℕ) (o : Option PacketValue) (v : PacketValue) (used : ℕ)
    → left ≡ suc behind → o ≡ first_value (framing_before behind) bytes → o ≡ Some v
    → used ≡ first_size (framing_before behind) bytes → streams_in left bytes ≡ v ∷ streams_in behind (drop used bytes)
streams-first left behind bytes o v used left_is value is used_is =
    ap (λ n. streams_in n bytes) left_is
    ∙ ap (λ w. first_then w (streams_in behind (drop (first_size (framing_before behind) bytes) bytes))) (sym value ∙ is)
    ∙ ap (λ n. v ∷ streams_in behind (drop n bytes)) (sym used_is)

-- the last one is all of the bytes that are left
last-alone : (s : SpelledStream) (bytes rest : List ℕ) → bytes ≡ rest → IsLastStream s rest
    → streams_in 1 bytes ≡ s.value ∷ []
last-alone s bytes rest is last =
    streams-first 1 0 bytes (first_value Whole bytes) s.value (length bytes) refl refl
    (sym (whole-value bytes) ∙ lent_value-spelled Whole s.value s.shape s.tail bytes
    (subst (IsPacket s.value s.shape s.tail) (sym is) last.spelled)) refl

streams-stand : (front : List SpelledStream) (last : SpelledStream) (bytes rest : List ℕ) → StandFirst front bytes rest
    → IsLastStream last rest → streams_in (length front + 1) bytes ≡ map (λ s. s.value) (front ++ last ∷ [])
streams-stand [] last bytes rest stand ends = last-alone last bytes rest stand ends
streams-stand (s ∷ ss) last bytes rest stand ends =
    let begins : BeginsWithSelf s.value s.shape s.size bytes =
    record { within = stand.0.within; spelled = (s.tail, stand.0.spelled) } in
    let other = framing-other (length ss + 1) (omega arith) in
    let more : suc (length ss) + 1 ≡ suc (length ss + 1) = omega arith in
    ap (λ n. streams_in n bytes) more
    ∙ streams-first (suc (length ss + 1)) (length ss + 1) bytes (Some s.value) s.value s.size refl
    (begins-value s.value s.shape s.size bytes begins ∙ ap (λ f. first_value f bytes) (sym other)) refl
    (begins-size s.value s.shape s.size bytes begins ∙ ap (λ f. first_size f bytes) (sym other))
    ∙ ap (λ l. s.value ∷ l) (streams-stand ss last (drop s.size bytes) rest stand.1 ends)

-- the streams of a multistream packet
pub streams-are : (ss : List SpelledStream) (bytes : List ℕ) → AreStreams ss bytes
    → streams_in (length ss) bytes ≡ map (λ s. s.value) ss
streams-are ss bytes are =
    let count : length ss ≡ length are.front + 1 =
    ap (λ l. length l) are.streams_are ∙ length-append are.front (are.last ∷ []) in
    ap (λ n. streams_in n bytes) count
    ∙ streams-stand are.front are.last bytes are.rest are.stand are.ends
    ∙ ap (map (λ s. s.value)) (sym are.streams_are)

-- the streams of a record
pub streams-held : (c : Choices) (start range : ℕ) (bytes : List ℕ) (r : Shown StreamsItem)
    (holds : HoldsStreams c start range bytes r)
    → streams_in c.streams r.bytes ≡ map (λ s. s.value) holds.streams
streams-held c start range bytes r holds =
    let m = lent_values c start range bytes r holds in
    let count : c.streams ≡ length m.streams =
    sym holds.counted ∙ sym (length-map holds.streams (λ (s : SpelledStream). s.value))
    ∙ ap (λ l. length l) m.values_are ∙ length-map m.streams (λ (s : SpelledStream). s.value) in
    ap (λ n. streams_in n r.bytes) count ∙ streams-are m.streams r.bytes m.are ∙ sym m.values_are
