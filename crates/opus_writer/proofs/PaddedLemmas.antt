-- The form of a given size: its parts, its size, and that it spells its value.
use Rattle.std.proofs.Common.{◌≡◌, ℕ, ◌+◌, ◌^◌, ◌<◌, ◌≤◌, Bool, true, false, not, ◌&&◌, ◌==◌, if◌then◌else◌, List, [], ◌∷◌, ◌++◌, length, map, replicate, flat_map, refl, sym, ap, ◌∙◌, append_assoc, length-append, eqb-true, arith}
use Rattle.std.specs.List.{concat}
use Rattle.std.proofs.lemmas.List.{length-replicate, length-map}
use Rattle.std.proofs.lemmas.Bool.{eqb-false}
use Rattle.opus_toc.specs.Toc.{toc_byte}
use Rattle.opus_flen.specs.FrameLength.{length_bytes}
use Rattle.opus_packet.specs.Value.{PacketValue, IsPacketValue}
use Rattle.opus_packet.specs.Header.{header_bytes, given_lengths, count_byte, padding_length, padding_data}
use Rattle.opus_packet.specs.HeaderRead.{shape_of}
use Rattle.opus_packet.specs.PacketGrammar.{sizes_for, header_in, header_for, IsPacket}
use Rattle.opus_packet.specs.Canonical.{have_one_length, canonical_shape, canonical}
use Rattle.opus_packet.proofs.Made.{length-header_bytes}
use Rattle.opus_packet.proofs.CanonicalLemmas.{canonical-is, canonical-is_packet}
pub use Rattle.opus_packet.proofs.SizeLemmas.{padding-parts}
use Rattle.opus_writer.proofs.HeaderLemmas.{header-made}
use Rattle.opus_writer.proofs.KeptLemmas.{one_suits}
use Rattle.opus_writer.specs.Padded.{padded_shape, padded_by, padding_for, padded_to, IsZeroPadded}

pub padded_by-is : (v : PacketValue) (pad : ℕ)
    → padded_by v pad
    ≡ header_bytes (header_for v (padded_shape v pad)) ++ concat v.frames ++ replicate (padding_data pad) 0
unfolding padded_by
padded_by-is v pad = refl

-- what padding adds to a header
header-padded : (config : ℕ) (stereo vbr : Bool) (pad : ℕ) (ns : List ℕ)
    → length (header_bytes (header_in config stereo (shape_of 3 vbr pad) ns))
    ≡ length (header_bytes (header_in config stereo (shape_of 3 vbr 0) ns)) + length (padding_length pad)
header-padded config stereo vbr pad ns =
    omega (arith, length-header_bytes (header_in config stereo (shape_of 3 vbr pad) ns), length-header_bytes (header_in config stereo (shape_of 3 vbr 0) ns))

pub parts-size : (v : PacketValue) (pad : ℕ)
    → length (padded_by v pad)
    ≡ length (header_bytes (header_for v (padded_shape v pad))) + length (concat v.frames) + padding_data pad
parts-size v pad =
    let h = header_bytes (header_for v (padded_shape v pad)) in
    omega (arith, ap length (padded_by-is v pad), length-append (h ++ concat v.frames) (replicate (padding_data pad) 0), length-append h (concat v.frames), length-replicate {A = ℕ} (padding_data pad) 0)

-- padding adds its total
pub padded_by-size : (v : PacketValue) (pad : ℕ) → length (padded_by v pad) ≡ length (padded_by v 0) + pad
padded_by-size v pad =
    omega (arith, parts-size v pad, parts-size v 0, header-padded v.config v.stereo (not (have_one_length (map length v.frames))) pad (map length v.frames), padding-parts pad)

-- the sizes of its pieces
pub pieces-size : (v : PacketValue) (pad : ℕ) (spelled : List ℕ)
    → spelled ≡ flat_map length_bytes (given_lengths (sizes_for (padded_shape v pad) (map length v.frames)))
    → length (padded_by v pad)
    ≡ 2 + length (padding_length pad) + length spelled + length (concat v.frames) + padding_data pad
pieces-size v pad spelled are =
    omega (arith, parts-size v pad, length-header_bytes (header_for v (padded_shape v pad)), ap length are)

-- code 3 without padding is at most a byte longer than the canonical form, and no shorter
two_headers : (config : ℕ) (stereo : Bool) (n m : ℕ) (b : Bool) → (m == n) ≡ b
    → length (header_bytes (header_in config stereo (shape_of 3 (not (b && true)) 0) (n ∷ m ∷ [])))
    ≡ length (header_bytes (header_in config stereo (if b then shape_of 1 false 0 else shape_of 2 false 0) (n ∷ m ∷ []))) + 1
two_headers config stereo n m true same =
    omega (arith, length-header_bytes (header_in config stereo (shape_of 3 false 0) (n ∷ m ∷ [])), length-header_bytes (header_in config stereo (shape_of 1 false 0) (n ∷ m ∷ [])))
two_headers config stereo n m false differ =
    omega (arith, length-header_bytes (header_in config stereo (shape_of 3 true 0) (n ∷ m ∷ [])), length-header_bytes (header_in config stereo (shape_of 2 false 0) (n ∷ m ∷ [])))

plain_header : (config : ℕ) (stereo : Bool) (ns : List ℕ)
    → length (header_bytes (header_in config stereo (shape_of 3 (not (have_one_length ns)) 0) ns))
    ≤ length (header_bytes (header_in config stereo (canonical_shape ns) ns)) + 1
plain_header config stereo [] = omega arith
plain_header config stereo (n ∷ []) =
    omega (arith, length-header_bytes (header_in config stereo (shape_of 3 false 0) (n ∷ [])), length-header_bytes (header_in config stereo (shape_of 0 false 0) (n ∷ [])))
plain_header config stereo (n ∷ m ∷ []) = omega (arith, two_headers config stereo n m (m == n) refl)
plain_header config stereo (n ∷ m ∷ k ∷ ns) = omega arith

pub plain-next : (v : PacketValue) → length (padded_by v 0) ≤ length (canonical v) + 1
plain-next v =
    let h = header_bytes (header_for v (canonical_shape (map length v.frames))) in
    omega (arith, parts-size v 0, plain_header v.config v.stereo (map length v.frames), ap length (canonical-is v), length-append h (concat v.frames))

-- the pieces of the padded form, one behind another
pub padded-joined : (v : PacketValue) (pad : ℕ) (before front with_pad with_lens with_body all spelled body : List ℕ)
    → front ≡ before ++ (toc_byte v.config v.stereo 3 ∷ count_byte (padded_shape v pad) (length v.frames) ∷ [])
    → with_pad ≡ front ++ padding_length pad
    → with_lens ≡ with_pad ++ spelled
    → spelled ≡ flat_map length_bytes (given_lengths (sizes_for (padded_shape v pad) (map length v.frames)))
    → with_body ≡ with_lens ++ body → body ≡ concat v.frames
    → all ≡ with_body ++ replicate (padding_data pad) 0 → 1 ≤ length v.frames
    → all ≡ before ++ padded_by v pad
padded-joined v pad before front with_pad with_lens with_body all spelled body f p l s b joined z some =
    let toc = toc_byte v.config v.stereo 3 in
    let count = count_byte (padded_shape v pad) (length v.frames) in
    let own = length-map v.frames (length {A = ℕ}) in
    let counted : with_pad ≡ (before ++ toc ∷ []) ++ (count_byte (padded_shape v pad) (length (map (length {A = ℕ}) v.frames)) ∷ padding_length pad) =
    p ∙ ap (λ x. x ++ padding_length pad) f ∙ append_assoc before (toc ∷ count ∷ []) (padding_length pad)
    ∙ sym (append_assoc before (toc ∷ []) (count ∷ padding_length pad))
    ∙ ap (λ k. (before ++ toc ∷ []) ++ (count_byte (padded_shape v pad) k ∷ padding_length pad)) (sym own) in
    let h = header_bytes (header_for v (padded_shape v pad)) in
    let zeros = replicate (padding_data pad) 0 in
    let header : with_lens ≡ before ++ h =
    header-made v.config v.stereo (padded_shape v pad) (map length v.frames) (omega (arith, own, some)) before (before ++ toc ∷ []) with_pad with_lens spelled toc refl refl counted l s in
    z ∙ ap (λ x. x ++ zeros) (b ∙ ap (λ x. x ++ body) header ∙ ap (λ x. (before ++ h) ++ x) joined)
    ∙ append_assoc (before ++ h) (concat v.frames) zeros ∙ append_assoc before h (concat v.frames ++ zeros)
    ∙ ap (λ x. before ++ x) (sym (append_assoc h (concat v.frames) zeros) ∙ sym (padded_by-is v pad))

-- a padded form has the size that was asked for
pub padded_to-size : (v : PacketValue) (size : ℕ) → length (canonical v) ≤ size
    → length (padded_to v size) ≡ size
padded_to-size v size least = go (size == length (canonical v)) refl
  where
    go : (b : Bool) → (size == length (canonical v)) ≡ b
        → length (if b then canonical v else padded_by v (padding_for v size)) ≡ size
    go true same = sym (eqb-true size (length (canonical v)) same)
    go false differ =
        omega (arith, padded_by-size v (padding_for v size), plain-next v, eqb-false size (length (canonical v)) differ)

-- and spells its value
pub padded_by-is_packet : (v : PacketValue) (pad : ℕ) → IsPacketValue v → pad < 2 ^ 24
    → IsPacket v (padded_shape v pad) (replicate (padding_data pad) 0) (padded_by v pad)
padded_by-is_packet v pad is small = record {
  value = is;
  suits = (small, one_suits v.frames is.some);
  padding = length-replicate (padding_data pad) 0;
  spelled = padded_by-is v pad;
}

pub padded_to-is_packet : (v : PacketValue) (size : ℕ) → IsPacketValue v → padding_for v size < 2 ^ 24
    → IsZeroPadded v (padded_to v size)
padded_to-is_packet v size is small = go (size == length (canonical v))
  where
    go : (b : Bool) → IsZeroPadded v (if b then canonical v else padded_by v (padding_for v size))
    go true = record { shape = canonical_shape (map length v.frames); count = 0; is_packet = canonical-is_packet v is }
    go false = record {
      shape = padded_shape v (padding_for v size);
      count = padding_data (padding_for v size);
      is_packet = padded_by-is_packet v (padding_for v size) is small;
    }
