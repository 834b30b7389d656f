-- The kept forms spell their value and their padding bytes, and no others; their padding length has the fewest bytes.
use Rattle.std.proofs.Common.{◌≡◌, ℕ, zero, suc, ◌+◌, ◌-◌, ◌/◌, ◌≤◌, false, not, List, [], ◌∷◌, ◌++◌, length, map, sym, ap, ◌∙◌, subst, append_assoc, arith}
use Rattle.std.specs.List.{concat}
use Rattle.std.proofs.lemmas.Bool.{not-false}
use Rattle.opus_flen.proofs.PaddingLemmas.{length-padding_bytes}
use Rattle.opus_packet.specs.Value.{PacketValue, IsPacketValue}
use Rattle.opus_packet.specs.Header.{header_bytes, padding_length, padding_data}
use Rattle.opus_packet.specs.PacketGrammar.{HaveOneLength, Suits, header_for, IsPacket}
use Rattle.opus_packet.specs.SelfGrammar.{last_length, self_header_bytes, IsSelfDelimited}
use Rattle.opus_packet.specs.Tail.{max_tail}
use Rattle.opus_packet.specs.Canonical.{have_one_length, pad_total, keep_shape, kept_form, kept_self_delimited}
use Rattle.opus_packet.proofs.HeaderLemmas.{padding_length-some}
use Rattle.opus_packet.proofs.GrammarLemmas.{IsPacket-unique, header_for-is}
use Rattle.opus_packet.proofs.CanonicalLemmas.{one_length, canonical_suits, canonical_shape-pad}
use Rattle.opus_packet.proofs.SizeLemmas.{padding-parts}
use Rattle.opus_packet.proofs.SpellingLemmas.{kept_form-is}
use Rattle.opus_writer.proofs.FormLemmas.{kept_self-is}
use Rattle.opus_writer.proofs.SelfLemmas.{parts-unique}

-- the padding total

padding_length-size : (total : ℕ) → 1 ≤ total → length (padding_length total) ≡ (total - 1) / 255 + 1
padding_length-size total some = ap length (padding_length-some total some) ∙ length-padding_bytes total

pub pad_total-data : (n : ℕ) → 1 ≤ n → padding_data (pad_total n) ≡ n
pad_total-data n some = let size = padding_length-size (pad_total n) (omega arith) in omega arith

pub pad_total-least : (n total : ℕ) → 1 ≤ n → padding_data total ≡ n → pad_total n ≤ total
pad_total-least n zero some data_is = absurd (omega arith)
pad_total-least n (suc m) some data_is = let size = padding_length-size (suc m) (omega arith) in omega arith

pub pad_total-fewest : (n total : ℕ) → 1 ≤ n → padding_data total ≡ n
    → length (padding_length (pad_total n)) ≤ length (padding_length total)
pad_total-fewest n total some data_is =
    let least = pad_total-least n total some data_is in
    let own = pad_total-data n some in
    let parts = padding-parts (pad_total n) in
    let others = padding-parts total in
    omega arith

-- the kept form

pub one_suits : (frames : List (List ℕ)) → 1 ≤ length frames → not (have_one_length (map length frames)) ≡ false
    → HaveOneLength frames
one_suits [] some same = absurd (omega arith)
one_suits (f ∷ fs) some same = one_length f fs (not-false (have_one_length (map length (f ∷ fs))) same)

keep_suits : (frames : List (List ℕ)) (n : ℕ) → 1 ≤ length frames → n ≤ max_tail
    → Suits (keep_shape (map length frames) n) frames
keep_suits frames zero some most = canonical_suits frames some
keep_suits frames (suc n) some most = (omega arith, one_suits frames some)

keep_shape-data : (lengths : List ℕ) (n : ℕ) → padding_data (keep_shape lengths n).pad ≡ n
keep_shape-data lengths zero = ap padding_data (canonical_shape-pad lengths)
keep_shape-data lengths (suc n) = pad_total-data (suc n) (omega arith)

pub kept-is_packet : (v : PacketValue) (tail : List ℕ) → IsPacketValue v → length tail ≤ max_tail
    → IsPacket v (keep_shape (map length v.frames) (length tail)) tail (kept_form v tail)
kept-is_packet v tail is most = record {
  value = is;
  suits = keep_suits v.frames (length tail) is.some most;
  padding = sym (keep_shape-data (map length v.frames) (length tail));
  spelled = kept_form-is v tail;
}

pub kept-unique : (v w : PacketValue) (tail rest : List ℕ) → IsPacketValue v → IsPacketValue w
    → length tail ≤ max_tail → length rest ≤ max_tail → kept_form v tail ≡ kept_form w rest
    → (v ≡ w) × (tail ≡ rest)
kept-unique v w tail rest p q few short e =
    let s = keep_shape (map length v.frames) (length tail) in
    let u = keep_shape (map length w.frames) (length rest) in
    let other : IsPacket w u rest (kept_form v tail) = subst (IsPacket w u rest) (sym e) (kept-is_packet w rest q short) in
    let same = IsPacket-unique v w s u tail rest (kept_form v tail) (kept-is_packet v tail p few) other in
    (same.0, same.2)

-- the kept self-delimited form

pub kept_self-is_packet : (v : PacketValue) (tail : List ℕ) → IsPacketValue v → length tail ≤ max_tail
    → IsSelfDelimited v (keep_shape (map length v.frames) (length tail)) tail (kept_self_delimited v tail)
kept_self-is_packet v tail is most =
    let plain = kept-is_packet v tail is most in
    record { value = is; suits = plain.suits; padding = plain.padding; spelled = kept_self-is v tail }

pub kept_self-unique : (v w : PacketValue) (tail rest : List ℕ) → IsPacketValue v → IsPacketValue w
    → length tail ≤ max_tail → length rest ≤ max_tail → kept_self_delimited v tail ≡ kept_self_delimited w rest
    → (v ≡ w) × (tail ≡ rest)
kept_self-unique v w tail rest p q few short e =
    let s = keep_shape (map length v.frames) (length tail) in
    let u = keep_shape (map length w.frames) (length rest) in
    let g = header_bytes (header_for v s) in
    let h = header_bytes (header_for w u) in
    let apart : self_header_bytes v s ++ (concat v.frames ++ tail) ≡ self_header_bytes w u ++ (concat w.frames ++ rest) =
    sym (append_assoc (self_header_bytes v s) (concat v.frames) tail) ∙ sym (kept_self-is v tail) ∙ e
    ∙ kept_self-is w rest ∙ append_assoc (self_header_bytes w u) (concat w.frames) rest in
    let (headers, behind) = parts-unique (header_for v s) (header_for w u)
    (last_length (map length v.frames)) (last_length (map length w.frames)) (concat v.frames ++ tail) (concat w.frames ++ rest)
    (header_for-is v s p (kept-is_packet v tail p few).suits) (header_for-is w u q (kept-is_packet w rest q short).suits) apart in
    kept-unique v w tail rest p q few short
    (kept_form-is v tail ∙ append_assoc g (concat v.frames) tail ∙ ap (λ k. header_bytes k ++ (concat v.frames ++ tail)) headers
    ∙ ap (λ l. h ++ l) behind ∙ sym (append_assoc h (concat w.frames) rest) ∙ sym (kept_form-is w rest))
