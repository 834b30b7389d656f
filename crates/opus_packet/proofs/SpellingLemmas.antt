-- The sizes of headers, counted from the lengths.
use Rattle.std.proofs.Common.{◌≡◌, ℕ, ◌+◌, ◌-◌, ◌*◌, ◌≤◌, Bool, true, false, if◌then◌else◌, List, [], ◌∷◌, ◌++◌, length, map, sum, take, flat_map, refl, sym, ap, ◌∙◌, arith, length-append, append-nil}
use Rattle.std.proofs.lemmas.List.Concat.{flat_map-append}
use Rattle.opus_flen.specs.FrameLength.{length_bytes}
use Rattle.opus_packet.specs.SelfGrammar.{last_length}
use Rattle.std.specs.List.{concat}
use Rattle.opus_packet.specs.declared.shape.Shape.{Shape}
use Rattle.opus_packet.specs.Value.{PacketValue}
use Rattle.opus_packet.specs.Header.{equal, given, given_lengths, header_bytes}
use Rattle.opus_packet.specs.PacketGrammar.{header_in, header_for}
use Rattle.opus_packet.specs.Canonical.{canonical_shape, canonical, keep_shape, kept_form}
use Rattle.opus_packet.specs.Cut.{cut}
use Rattle.opus_packet.proofs.CutLemmas.{take-last, lengths-cut, concat-cut}
use Rattle.opus_packet.proofs.CanonicalLemmas.{canonical-is}
use Rattle.opus_packet.proofs.LensLemmas.{last_length-at}

-- so many bytes spell the lengths that were passed
pub record Counted (all left : List ℕ) (size : ℕ) : Type 0 where
  pub same : length (flat_map length_bytes all) ≡ size + length (flat_map length_bytes left)
  pub small : size + 2 * length left ≤ 96

-- the bytes of all lengths are those of all but the last, and of the last
pub spelled-last : (ns : List ℕ) → 1 ≤ length ns
    → length (flat_map length_bytes ns)
    ≡ length (flat_map length_bytes (take (length ns - 1) ns)) + length (length_bytes (last_length ns))
spelled-last ns some =
    let front = take (length ns - 1) ns in
    let last = last_length ns in
    let parts : front ++ last ∷ [] ≡ ns = ap (λ n. front ++ n ∷ []) (last_length-at ns some) ∙ take-last ns some in
    let joined = ap length (flat_map-append length_bytes front (last ∷ [])) in
    let one = ap length (append-nil (length_bytes last)) in
    ap (λ l. length (flat_map length_bytes l)) (sym parts)
    ∙ omega (arith, joined, one, length-append (flat_map length_bytes front) (length_bytes last ++ []))

-- the lengths that a header gives, or none
pub given-size : (b : Bool) (ns : List ℕ)
    → length (flat_map length_bytes (given_lengths (if b then given (take (length ns - 1) ns) else equal (length ns))))
    ≡ (if b then length (flat_map length_bytes (take (length ns - 1) ns)) else 0)
given-size true ns = refl
given-size false ns = refl

-- the kept form without padding bytes is the canonical form
pub kept_form-is : (v : PacketValue) (tail : List ℕ)
    → kept_form v tail
    ≡ header_bytes (header_for v (keep_shape (map length v.frames) (length tail))) ++ concat v.frames ++ tail
unfolding kept_form
kept_form-is v tail = refl

pub kept_form-nil : (v : PacketValue) → kept_form v [] ≡ canonical v
kept_form-nil v =
    let front = header_bytes (header_for v (canonical_shape (map length v.frames))) in
    kept_form-is v [] ∙ append-nil (front ++ concat v.frames) ∙ sym (canonical-is v)

-- the size of a kept form, from its header, body and tail
pub kept-size : (v : PacketValue) (body lens tail : List ℕ) (shape : Shape) (n : ℕ)
    → v.frames ≡ cut body lens → sum lens ≡ length body → shape ≡ keep_shape lens (length tail)
    → n ≡ length (header_bytes (header_in v.config v.stereo shape lens))
    → n + (length body + length tail) ≡ length (kept_form v tail)
kept-size v body lens tail shape n frames fills shape_is size =
    let own : map length v.frames ≡ lens = ap (λ fs. map length fs) frames ∙ lengths-cut body lens (omega (arith, fills)) in
    let joined : concat v.frames ≡ body = ap concat frames ∙ concat-cut body lens (sym fills) in
    let front : header_bytes (header_in v.config v.stereo shape lens) ≡ header_bytes (header_for v (keep_shape (map length v.frames) (length tail))) =
    ap (λ s. header_bytes (header_in v.config v.stereo s lens)) (shape_is ∙ ap (λ l. keep_shape l (length tail)) (sym own))
    ∙ ap (λ l. header_bytes (header_in v.config v.stereo (keep_shape (map length v.frames) (length tail)) l)) (sym own) in
    let h = header_bytes (header_for v (keep_shape (map length v.frames) (length tail))) in
    omega (arith, size, ap length front, ap length joined, ap length (kept_form-is v tail), length-append (h ++ concat v.frames) tail, length-append h (concat v.frames))
