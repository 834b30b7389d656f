-- A kept form is a list of bytes where its frames and padding bytes are.
use Rattle.std.proofs.Common.{◌≡◌, ℕ, zero, suc, ◌+◌, ◌-◌, ◌*◌, ◌/◌, ◌%◌, ◌<◌, ◌≤◌, Bool, true, false, ◌==◌, ◌||◌, nat_lt, if◌then◌else◌, List, [], ◌∷◌, ◌++◌, length, map, take, replicate, flat_map, refl, sym, subst, arith}
use Rattle.std.specs.List.{concat}
use Rattle.std.proofs.lemmas.Bool.{ltb-true, ltb-false}
use Rattle.std.proofs.lemmas.List.{length-take-le}
use Rattle.opus_flen.specs.FrameLength.{length_bytes}
use Rattle.opus_flen.specs.PaddingLength.{padding_bytes}
use Rattle.opus_packet.specs.declared.shape.Shape.{Shape}
use Rattle.opus_packet.specs.Value.{PacketValue, IsPacketValue, max_frame}
use Rattle.opus_packet.specs.PacketPrefix.{AreBytes}
use Rattle.opus_packet.specs.Header.{equal, given, header_bytes, given_lengths, padding_length, count_and_padding, frame_count, count_byte}
use Rattle.opus_packet.specs.HeaderRead.{shape_of}
use Rattle.opus_packet.specs.PacketGrammar.{SuitsCode, header_for, IsPacket}
use Rattle.opus_packet.specs.SelfGrammar.{last_length}
use Rattle.opus_packet.specs.Canonical.{canonical_shape, keep_shape}
use Rattle.opus_packet.proofs.BytesLemmas.{AreBytes-append}
use Rattle.opus_packet.proofs.CutLemmas.{lengths-each, AreLengths-take}
use Rattle.opus_packet.proofs.LengthsReadLemmas.{AreLengths}
use Rattle.opus_packet.proofs.SpellingLemmas.{kept_form-is}
use Rattle.opus_writer.proofs.FormLemmas.{kept_self-is}
use Rattle.opus_feed.specs.declared.framing.Framing.{Framing}
use Rattle.opus_feed.specs.declared.framing.Framing.TheVariants.{Whole, SelfDelimited}
use Rattle.pack_records.specs.Fits.{form_of}
use Rattle.pack_jobs.proofs.FormSizes.{length-map}

length_by : (n : ℕ) (b : Bool) → nat_lt n 252 ≡ b → n ≤ max_frame
    → AreBytes (if b then n ∷ [] else (252 + n % 4) ∷ ((n - (252 + n % 4)) / 4) ∷ [])
length_by n true e most = let below = ltb-true n 252 e in (omega arith, tt)
length_by n false e most = let above = ltb-false n 252 e in (omega arith, (omega arith, tt))

length-are : (n : ℕ) → n ≤ max_frame → AreBytes (length_bytes n)
length-are n most = length_by n (nat_lt n 252) refl most

lengths-are : (ns : List ℕ) → AreLengths ns → AreBytes (flat_map length_bytes ns)
lengths-are [] each = tt
lengths-are (n ∷ ns) each =
    AreBytes-append (length_bytes n) (flat_map length_bytes ns) (length-are n each.0) (lengths-are ns each.1)

full-are : (n : ℕ) → AreBytes (replicate n 255)
full-are zero = tt
full-are (suc n) = (omega arith, full-are n)

padding_by : (b : Bool) (total : ℕ) → AreBytes (if b then padding_bytes total else [])
padding_by true total =
    AreBytes-append (replicate ((total - 1) / 255) 255) ((total - 1) % 255 ∷ []) (full-are ((total - 1) / 255)) (omega arith, tt)
padding_by false total = tt

count_most : (b c : Bool) (n : ℕ) → n ≤ 48 → 128 * (if b then 1 else 0) + 64 * (if c then 1 else 0) + n < 256
count_most true true n most = omega arith
count_most true false n most = omega arith
count_most false true n most = omega arith
count_most false false n most = omega arith

front-are : (b : Bool) (shape : Shape) (count : ℕ) → count ≤ 48
    → AreBytes (if b then count_byte shape count ∷ padding_length shape.pad else [])
front-are true shape count most =
    (count_most shape.vbr (nat_lt 0 shape.pad) count most, padding_by (nat_lt 0 shape.pad) shape.pad)
front-are false shape count most = tt

count_by : (b : Bool) (ns : List ℕ) → 1 ≤ length ns → length ns ≤ 48
    → frame_count (if b then given (take (length ns - 1) ns) else equal (length ns)) ≤ 48
count_by true ns some most = let size = length-take-le (length ns - 1) ns (omega arith) in omega arith
count_by false ns some most = most

given_by : (b : Bool) (ns : List ℕ) → AreLengths ns
    → AreLengths (given_lengths (if b then given (take (length ns - 1) ns) else equal (length ns)))
given_by true ns each = AreLengths-take (length ns - 1) ns each
given_by false ns each = tt

abbrev two_shape : Bool → Shape
two_shape b = if b then shape_of 1 false 0 else shape_of 2 false 0

two_code : (b : Bool) → (two_shape b).code ≤ 3
two_code true = omega arith
two_code false = omega arith

canonical-code : (ns : List ℕ) → (canonical_shape ns).code ≤ 3
canonical-code [] = omega arith
canonical-code (n ∷ []) = omega arith
canonical-code (n ∷ m ∷ []) = two_code (m == n)
canonical-code (n ∷ m ∷ k ∷ ns) = omega arith

keep-code : (ns : List ℕ) (n : ℕ) → (keep_shape ns n).code ≤ 3
keep-code ns zero = canonical-code ns
keep-code ns (suc n) = omega arith

toc_most : (b : Bool) (config code : ℕ) → config < 32 → code ≤ 3 → 8 * config + 4 * (if b then 1 else 0) + code < 256
toc_most true config code fits most = omega arith
toc_most false config code fits most = omega arith

pub header-are : (v : PacketValue) (shape : Shape) → IsPacketValue v → shape.code ≤ 3 → AreBytes (header_bytes (header_for v shape))
unfolding header_bytes
header-are v shape is code =
    let ns = map length v.frames in
    let size = length-map v.frames in
    let h = header_for v shape in
    let b = (shape.code == 2) || shape.vbr in
    let given-are = lengths-are (given_lengths h.sizes) (given_by b ns (lengths-each v.frames is.each)) in
    let front = front-are (shape.code == 3) shape (frame_count h.sizes)
    (count_by b ns (omega (arith, is.some, size)) (omega (arith, is.most, size))) in (
      toc_most v.stereo v.config shape.code is.config code,
      AreBytes-append (count_and_padding shape (frame_count h.sizes)) (flat_map length_bytes (given_lengths h.sizes)) front given-are,
    )

last_most : (ns : List ℕ) → AreLengths ns → last_length ns ≤ max_frame
last_most [] each = omega arith
last_most (n ∷ []) each = each.0
last_most (n ∷ m ∷ ns) each = last_most (m ∷ ns) each.1

-- the kept form of a value in a framing
pub form-are : (framing : Framing) (v : PacketValue) (tail : List ℕ) → IsPacketValue v → AreBytes (concat v.frames)
    → AreBytes tail → AreBytes (form_of framing v tail)
form-are Whole v tail is frames padding =
    let shape = keep_shape (map length v.frames) (length tail) in
    let header = header_bytes (header_for v shape) in
    subst AreBytes (sym (kept_form-is v tail))
    (AreBytes-append (header ++ concat v.frames) tail
    (AreBytes-append header (concat v.frames) (header-are v shape is (keep-code (map length v.frames) (length tail))) frames)
    padding)
form-are SelfDelimited v tail is frames padding =
    let shape = keep_shape (map length v.frames) (length tail) in
    let header = header_bytes (header_for v shape) in
    let last = length_bytes (last_length (map length v.frames)) in
    subst AreBytes (sym (kept_self-is v tail))
    (AreBytes-append ((header ++ last) ++ concat v.frames) tail
    (AreBytes-append (header ++ last) (concat v.frames)
    (AreBytes-append header last (header-are v shape is (keep-code (map length v.frames) (length tail)))
    (length-are (last_length (map length v.frames)) (last_most (map length v.frames) (lengths-each v.frames is.each)))) frames)
    padding)

-- a packet in any shape

suits-code : (code : ℕ) (vbr : Bool) (pad : ℕ) (frames : List (List ℕ)) → SuitsCode code vbr pad frames → code ≤ 3
suits-code zero vbr pad frames suits = omega arith
suits-code (suc zero) vbr pad frames suits = omega arith
suits-code (suc (suc zero)) vbr pad frames suits = omega arith
suits-code (suc (suc (suc zero))) vbr pad frames suits = omega arith
suits-code (suc (suc (suc (suc code)))) vbr pad frames suits = absurd suits

pub packet-are : (v : PacketValue) (shape : Shape) (tail bytes : List ℕ) → IsPacket v shape tail bytes
    → AreBytes (concat v.frames) → AreBytes tail → AreBytes bytes
packet-are v shape tail bytes is frames padding =
    let header = header_bytes (header_for v shape) in
    subst AreBytes (sym is.spelled)
    (AreBytes-append (header ++ concat v.frames) tail
    (AreBytes-append header (concat v.frames)
    (header-are v shape is.value (suits-code shape.code shape.vbr shape.pad v.frames is.suits)) frames)
    padding)
