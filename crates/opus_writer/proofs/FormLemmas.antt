-- A written form is its header, its frames and its padding bytes; and how large it is.
use Rattle.std.proofs.Common.{◌≡◌, ℕ, Bool, true, false, ◌+◌, List, [], ◌++◌, length, map, refl, sym, ap, ◌∙◌, append-nil, length-append, arith}
use Rattle.std.specs.List.{concat}
use Rattle.opus_flen.specs.FrameLength.{length_bytes}
use Rattle.opus_packet.specs.declared.shape.Shape.{Shape}
use Rattle.opus_packet.specs.Value.{PacketValue}
use Rattle.opus_packet.specs.Header.{header_bytes}
use Rattle.opus_packet.specs.PacketGrammar.{header_in}
use Rattle.opus_packet.specs.SelfGrammar.{last_length}
use Rattle.opus_packet.specs.Canonical.{canonical, canonical_self_delimited, keep_shape, kept_form, kept_self_delimited}
use Rattle.opus_packet.proofs.SpellingLemmas.{kept_form-is, kept_form-nil}
use Rattle.opus_writer.specs.Forms.{canonical_header, canonical_self_header, canonical_in, canonical_header_in, keep_header, keep_self_header, kept_in, keep_header_in}

pub kept_self-is : (v : PacketValue) (tail : List ℕ)
    → kept_self_delimited v tail ≡ keep_self_header v (length tail) ++ concat v.frames ++ tail
unfolding kept_self_delimited
kept_self-is v tail = refl

pub canonical_self-is : (v : PacketValue)
    → canonical_self_delimited v ≡ canonical_self_header v ++ concat v.frames
unfolding canonical_self_delimited
canonical_self-is v = refl

pub kept_self-nil : (v : PacketValue) → kept_self_delimited v [] ≡ canonical_self_delimited v
kept_self-nil v =
    kept_self-is v [] ∙ append-nil (canonical_self_header v ++ concat v.frames) ∙ sym (canonical_self-is v)

-- the pieces of a form, one behind another
pub kept-joined : (v : PacketValue) (tail header body bytes : List ℕ) → header ≡ keep_header v (length tail)
    → body ≡ concat v.frames → bytes ≡ tail → (header ++ body) ++ bytes ≡ kept_form v tail
kept-joined v tail header body bytes h b t =
    ap (λ l. (l ++ body) ++ bytes) h ∙ ap (λ l. (keep_header v (length tail) ++ l) ++ bytes) b
    ∙ ap (λ l. (keep_header v (length tail) ++ concat v.frames) ++ l) t ∙ sym (kept_form-is v tail)

pub kept_self-joined : (v : PacketValue) (tail header body bytes : List ℕ) → header ≡ keep_self_header v (length tail)
    → body ≡ concat v.frames → bytes ≡ tail → (header ++ body) ++ bytes ≡ kept_self_delimited v tail
kept_self-joined v tail header body bytes h b t =
    ap (λ l. (l ++ body) ++ bytes) h ∙ ap (λ l. (keep_self_header v (length tail) ++ l) ++ bytes) b
    ∙ ap (λ l. (keep_self_header v (length tail) ++ concat v.frames) ++ l) t ∙ sym (kept_self-is v tail)

pub canonical-joined : (v : PacketValue) (header body : List ℕ) → header ≡ canonical_header v
    → body ≡ concat v.frames → header ++ body ≡ canonical v
canonical-joined v header body h b =
    sym (append-nil (header ++ body)) ∙ kept-joined v [] header body [] h b refl ∙ kept_form-nil v

pub canonical_self-joined : (v : PacketValue) (header body : List ℕ) → header ≡ canonical_self_header v
    → body ≡ concat v.frames → header ++ body ≡ canonical_self_delimited v
canonical_self-joined v header body h b =
    sym (append-nil (header ++ body)) ∙ kept_self-joined v [] header body [] h b refl ∙ kept_self-nil v

-- the same in either framing

pub canonical_in-joined : (own : Bool) (v : PacketValue) (header body : List ℕ) → header ≡ canonical_header_in own v
    → body ≡ concat v.frames → header ++ body ≡ canonical_in own v
canonical_in-joined true v header body h b = canonical_self-joined v header body h b
canonical_in-joined false v header body h b = canonical-joined v header body h b

pub kept_in-joined : (own : Bool) (v : PacketValue) (tail header body bytes : List ℕ)
    → header ≡ keep_header_in own v (length tail) → body ≡ concat v.frames → bytes ≡ tail
    → (header ++ body) ++ bytes ≡ kept_in own v tail
kept_in-joined true v tail header body bytes h b t = kept_self-joined v tail header body bytes h b t
kept_in-joined false v tail header body bytes h b t = kept-joined v tail header body bytes h b t

-- sizes
pub kept-size : (v : PacketValue) (tail lens body : List ℕ) (shape : Shape) (n : ℕ) → lens ≡ map length v.frames
    → body ≡ concat v.frames → shape ≡ keep_shape lens (length tail)
    → n ≡ length (header_bytes (header_in v.config v.stereo shape lens))
    → n + length body + length tail ≡ length (kept_form v tail)
kept-size v tail lens body shape n are joined shape_is size =
    let own : header_bytes (header_in v.config v.stereo shape lens) ≡ keep_header v (length tail) =
    ap (λ s. header_bytes (header_in v.config v.stereo s lens)) shape_is
    ∙ ap (λ l. header_bytes (header_in v.config v.stereo (keep_shape l (length tail)) l)) are in
    let h = keep_header v (length tail) in
    omega (arith, size, ap length own, ap length joined, ap length (kept_form-is v tail), length-append (h ++ concat v.frames) tail, length-append h (concat v.frames))

pub kept_self-size : (v : PacketValue) (tail : List ℕ)
    → length (kept_self_delimited v tail)
    ≡ length (kept_form v tail) + length (length_bytes (last_length (map length v.frames)))
kept_self-size v tail =
    let h = keep_header v (length tail) in
    let l = length_bytes (last_length (map length v.frames)) in
    omega (arith, ap length (kept_self-is v tail), length-append ((h ++ l) ++ concat v.frames) tail, length-append (h ++ l) (concat v.frames), length-append h l, ap length (kept_form-is v tail), length-append (h ++ concat v.frames) tail, length-append h (concat v.frames))

pub canonical_self-size : (v : PacketValue)
    → length (canonical_self_delimited v)
    ≡ length (canonical v) + length (length_bytes (last_length (map length v.frames)))
canonical_self-size v =
    omega (arith, kept_self-size v [], ap length (kept_self-nil v), ap length (kept_form-nil v))
