-- The canonical self-delimited form spells its value, and no other.
use Rattle.std.proofs.Common.{◌≡◌, ℕ, List, [], ◌++◌, length, drop, map, refl, sym, ap, ◌∙◌, append-nil, append_assoc, drop_at}
use Rattle.std.specs.List.{concat}
use Rattle.opus_flen.specs.FrameLength.{length_bytes}
use Rattle.opus_flen.proofs.LengthLemmas.{length_bytes-unique}
use Rattle.opus_packet.specs.Value.{PacketValue, IsPacketValue}
use Rattle.opus_packet.specs.Header.{Header, header_bytes}
use Rattle.opus_packet.specs.HeaderRead.{whole, header_read}
use Rattle.opus_packet.specs.PacketGrammar.{header_for}
use Rattle.opus_packet.specs.SelfGrammar.{last_length, self_header_bytes, IsSelfDelimited}
use Rattle.opus_packet.specs.Canonical.{canonical_shape, canonical_self_delimited}
use Rattle.opus_packet.proofs.HeaderLemmas.{IsHeader, header_read-spelled}
use Rattle.opus_packet.proofs.GrammarLemmas.{header_for-is}
use Rattle.opus_writer.proofs.FormLemmas.{canonical_self-is}
use Rattle.opus_packet.proofs.CanonicalLemmas.{canonical-is, canonical-is_packet, canonical-unique}

pub canonical_self-is_packet : (v : PacketValue) → IsPacketValue v
    → IsSelfDelimited v (canonical_shape (map length v.frames)) [] (canonical_self_delimited v)
canonical_self-is_packet v is =
    let shape = canonical_shape (map length v.frames) in
    let plain = canonical-is_packet v is in
    record {
      value = is;
      suits = plain.suits;
      padding = plain.padding;
      spelled = canonical_self-is v ∙ sym (append-nil (self_header_bytes v shape ++ concat v.frames));
    }

-- a header, a length and what follows are read off their bytes

same_header : {g h : Header} → whole g ≡ whole h → g ≡ h
same_header e = cc

pub parts-unique : (g h : Header) (m n : ℕ) (xs ys : List ℕ) → IsHeader g → IsHeader h
    → (header_bytes g ++ length_bytes m) ++ xs ≡ (header_bytes h ++ length_bytes n) ++ ys
    → (g ≡ h) × (xs ≡ ys)
parts-unique g h m n xs ys is_g is_h e =
    let moved : header_bytes g ++ (length_bytes m ++ xs) ≡ header_bytes h ++ (length_bytes n ++ ys) =
    sym (append_assoc (header_bytes g) (length_bytes m) xs) ∙ e
    ∙ append_assoc (header_bytes h) (length_bytes n) ys in
    let same : g ≡ h =
    same_header (sym (header_read-spelled g is_g (length_bytes m ++ xs)) ∙ ap header_read moved
    ∙ header_read-spelled h is_h (length_bytes n ++ ys)) in
    let rest : length_bytes m ++ xs ≡ length_bytes n ++ ys =
    sym (drop_at (header_bytes g) (length_bytes m ++ xs) (length (header_bytes g)) refl)
    ∙ ap (drop (length (header_bytes g))) moved
    ∙ drop_at (header_bytes h) (length_bytes n ++ ys) (length (header_bytes g))
    (ap (λ k. length (header_bytes k)) (sym same)) in
    (same, (length_bytes-unique m n xs ys rest).1)

pub canonical_self-unique : (v w : PacketValue) → IsPacketValue v → IsPacketValue w
    → canonical_self_delimited v ≡ canonical_self_delimited w → v ≡ w
canonical_self-unique v w p q e =
    let s = canonical_shape (map length v.frames) in
    let u = canonical_shape (map length w.frames) in
    let (headers, frames) = parts-unique (header_for v s) (header_for w u)
    (last_length (map length v.frames)) (last_length (map length w.frames)) (concat v.frames) (concat w.frames)
    (header_for-is v s p (canonical-is_packet v p).suits) (header_for-is w u q (canonical-is_packet w q).suits)
    (sym (canonical_self-is v) ∙ e ∙ canonical_self-is w) in
    canonical-unique v w p q
    (canonical-is v ∙ ap (λ h. header_bytes h ++ concat v.frames) headers
    ∙ ap (λ l. header_bytes (header_for w u) ++ l) frames ∙ sym (canonical-is w))
