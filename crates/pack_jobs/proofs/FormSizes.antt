-- How long the bytes are that are lent of a record.
use Rattle.std.proofs.Common.{◌≡◌, ℕ, zero, suc, ◌+◌, ◌^◌, ◌<◌, ◌≤◌, Bool, true, false, ◌==◌, if◌then◌else◌, List, [], ◌∷◌, ◌++◌, length, map, ap, ◌∙◌, length-append, arith}
use Rattle.std.specs.List.{concat}
use Rattle.opus_flen.proofs.PaddingLemmas.{length-padding_bytes-le}
use Rattle.opus_flen.proofs.LengthLemmas.{length-length_bytes}
use Rattle.opus_packet.specs.Value.{PacketValue, IsPacketValue}
use Rattle.opus_packet.specs.Header.{header_bytes, given_lengths, padding_length, count_and_padding, frame_count}
use Rattle.opus_packet.specs.PacketGrammar.{sizes_for, header_for}
use Rattle.opus_packet.specs.SelfGrammar.{last_length}
use Rattle.opus_packet.specs.Tail.{max_tail}
use Rattle.opus_packet.specs.Canonical.{keep_shape, kept_form}
use Rattle.opus_packet.proofs.CanonicalLemmas.{canonical_shape-pad}
use Rattle.opus_packet.proofs.HeaderLemmas.{padding_length-some}
use Rattle.opus_packet.proofs.LensLemmas.{spelled_most}
use Rattle.opus_packet.proofs.Made.{length-header_bytes}
use Rattle.opus_packet.proofs.SpellingLemmas.{kept_form-is}
use Rattle.opus_packet.proofs.SizeLemmas.{body_most}
use Rattle.opus_writer.proofs.FormLemmas.{kept_self-size}
use Rattle.opus_writer.proofs.HeaderLemmas.{length-given_lengths}
use Rattle.opus_feed.specs.declared.framing.Framing.{Framing}
use Rattle.opus_feed.specs.declared.framing.Framing.TheVariants.{Whole, SelfDelimited}
use Rattle.pack_records.specs.declared.item.Found.{Found}
use Rattle.pack_records.specs.declared.item.Found.TheVariants.{Packet, Lost, Bad}
use Rattle.pack_records.specs.Fits.{form_of, IsForm, FoundFits}

padding_most : (pad : ℕ) → length (padding_length pad) ≤ pad
padding_most zero = omega arith
padding_most (suc n) =
    omega (arith, ap length (padding_length-some (suc n) (omega arith)), length-padding_bytes-le (suc n) (omega arith))

front_by : (b : Bool) (byte pad : ℕ) → length (if b then byte ∷ padding_length pad else []) ≤ 1 + pad
front_by true byte pad = let most = padding_most pad in omega arith
front_by false byte pad = omega arith

keep_pad : (lengths : List ℕ) (n : ℕ) → n ≤ max_tail → (keep_shape lengths n).pad ≤ 131072
keep_pad lengths zero most = omega (arith, canonical_shape-pad lengths)
keep_pad lengths (suc n) most = omega arith

pub length-map : (frames : List (List ℕ)) → length (map length frames) ≡ length frames
length-map [] = omega arith
length-map (f ∷ fs) = let behind = length-map fs in omega arith

-- a kept form has bytes, and fewer than 2^32
kept_sizes : (v : PacketValue) (tail : List ℕ) → IsPacketValue v → length tail ≤ max_tail
    → (1 ≤ length (kept_form v tail)) × (length (kept_form v tail) ≤ 400000)
kept_sizes v tail is small =
    let lengths = map length v.frames in
    let shape = keep_shape lengths (length tail) in
    let h = header_for v shape in
    let front : length (count_and_padding shape (frame_count h.sizes)) ≤ 1 + shape.pad =
    front_by (shape.code == 3) _ shape.pad in
    let pad = keep_pad lengths (length tail) small in
    let few = length-given_lengths shape lengths (omega (arith, length-map v.frames, is.some)) in
    let spelled = spelled_most (given_lengths (sizes_for shape lengths)) in
    let body = body_most v.frames is.each in
    let size = length-header_bytes h in
    let whole = ap length (kept_form-is v tail) ∙ length-append (header_bytes h ++ concat v.frames) tail in
    let rest = length-append (header_bytes h) (concat v.frames) in
    (omega (arith, size, whole, rest), omega (arith, size, whole, rest, body, spelled, few, pad, front, small, is.most, length-map v.frames))

pub form_sizes : (framing : Framing) (v : PacketValue) (tail : List ℕ) → IsPacketValue v → length tail ≤ max_tail
    → (1 ≤ length (form_of framing v tail)) × (length (form_of framing v tail) ≤ 500000)
form_sizes Whole v tail is small =
    let sizes = kept_sizes v tail is small in (sizes.0, omega (arith, sizes.1))
form_sizes SelfDelimited v tail is small =
    let sizes = kept_sizes v tail is small in
    let own = kept_self-size v tail in
    let last = length-length_bytes (last_length (map length v.frames)) in
    (omega (arith, own, sizes.0), omega (arith, own, sizes.1, last.1))

pub IsForm-some : (framing : Framing) (bytes : List ℕ) → IsForm framing bytes → 1 ≤ length bytes
IsForm-some framing bytes form =
    omega (arith, ap length form.bytes_are, (form_sizes framing form.value form.tail form.is_value form.small).0)

pub IsForm-fits : (framing : Framing) (bytes : List ℕ) → IsForm framing bytes → length bytes < 2 ^ 32
IsForm-fits framing bytes form =
    omega (arith, ap length form.bytes_are, (form_sizes framing form.value form.tail form.is_value form.small).1)

pub found_fits : (found : Found) (bytes : List ℕ) → FoundFits found bytes → length bytes < 2 ^ 32
found_fits (Packet framing shape size) bytes fits = IsForm-fits framing bytes fits
found_fits Lost bytes fits = omega (arith, ap length fits)
found_fits (Bad fault) bytes fits = omega (arith, ap length fits)
