-- The most bytes that a packet has.
use Rattle.std.proofs.Common.{◌≡◌, ℕ, zero, suc, ◌+◌, ◌*◌, ◌^◌, ◌<◌, ◌≤◌, Bool, true, false, ◌==◌, if◌then◌else◌, List, [], ◌∷◌, ◌++◌, length, refl, ap, length-append, arith}
use Rattle.std.specs.List.{AllByRecursion, concat}
use Rattle.opus_flen.proofs.PaddingLemmas.{length-padding_bytes-le}
use Rattle.opus_packet.specs.declared.shape.Shape.{Shape}
use Rattle.opus_packet.specs.Value.{PacketValue, IsFrame, max_frame}
use Rattle.opus_packet.specs.Header.{Sizes, equal, given, frame_count, given_lengths, padding_length, padding_data, count_byte, header_bytes}
use Rattle.opus_packet.specs.PacketGrammar.{SuitsCode, header_for, Spells}
use Rattle.opus_packet.proofs.HeaderLemmas.{padding_length-some}
use Rattle.opus_packet.proofs.GrammarLemmas.{sizes_of}
use Rattle.opus_packet.proofs.LensLemmas.{spelled_most}
use Rattle.opus_packet.proofs.Made.{length-header_bytes}

-- length bytes and padding bytes are all of the padding
pub padding-parts : (pad : ℕ) → length (padding_length pad) + padding_data pad ≡ pad
padding-parts zero = refl
padding-parts (suc n) =
    let few = length-padding_bytes-le (suc n) (omega arith) in
    omega (arith, few, ap length (padding_length-some (suc n) (omega arith)))

pad_below : (code : ℕ) (vbr : Bool) (pad : ℕ) (frames : List (List ℕ)) → SuitsCode code vbr pad frames → pad < 2 ^ 24
pad_below zero vbr pad frames suits = omega (arith, suits.1)
pad_below (suc zero) vbr pad frames suits = omega (arith, suits.1)
pad_below (suc (suc zero)) vbr pad frames suits = omega (arith, suits.1)
pad_below (suc (suc (suc zero))) vbr pad frames suits = suits.0
pad_below (suc (suc (suc (suc code)))) vbr pad frames suits = absurd suits

front_most : (b : Bool) (byte pad : ℕ)
    → length (if b then byte ∷ padding_length pad else []) ≤ 1 + length (padding_length pad)
front_most true byte pad = omega arith
front_most false byte pad = omega arith

given_few : (sizes : Sizes) → 1 ≤ frame_count sizes → length (given_lengths sizes) + 1 ≤ frame_count sizes
given_few (equal count) some = some
given_few (given lengths) some = omega arith

pub body_most : (frames : List (List ℕ)) → AllByRecursion IsFrame frames → length (concat frames) ≤ max_frame * length frames
body_most [] each = omega arith
body_most (f ∷ fs) each =
    let rest = body_most fs each.1 in
    let first : length f ≤ max_frame = each.0 in
    omega (arith, rest, first, length-append f (concat fs))

-- a TOC byte and a count byte, 2^24 - 1 of padding, two for each length but the last, and 48 frames of 1,275
pub packet-most : (v : PacketValue) (s : Shape) (bs : List ℕ) → Spells v s bs → length bs ≤ 16838511
packet-most v s bs (tail, p) =
    let h = header_for v s in
    let sizes = sizes_of v s p.value p.suits in
    let lengths = given_lengths h.sizes in
    let few = given_few h.sizes (omega (arith, sizes.count_is, p.value.some)) in
    let front = front_most (s.code == 3) (count_byte s (frame_count h.sizes)) s.pad in
    omega (
      arith,
      ap length p.spelled,
      length-append (header_bytes h ++ concat v.frames) tail,
      length-append (header_bytes h) (concat v.frames),
      length-header_bytes h,
      front,
      spelled_most lengths,
      few,
      sizes.count_is,
      p.value.most,
      body_most v.frames p.value.each,
      p.padding,
      padding-parts s.pad,
      pad_below s.code s.vbr s.pad v.frames p.suits,
    )
