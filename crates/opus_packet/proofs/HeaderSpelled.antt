-- What spells a header is read as it, whatever follows.
use Rattle.std.proofs.Common.{◌≡◌, ℕ, zero, suc, ◌-◌, ◌*◌, ◌^◌, ◌<◌, ◌≤◌, Bool, true, false, List, [], ◌∷◌, ◌++◌, length, drop, flat_map, Some, nat_lt, nat_le, refl, sym, ap, ◌∙◌, subst, append_assoc, drop_at, lt-ltb, ltb-true, ltb-false, le-leb, arith}
use Rattle.std.proofs.lemmas.Bool.{and_from}
use Rattle.opus_toc.specs.Toc.{config_of, toc_byte}
use Rattle.opus_toc.specs.Configuration.{samples_of}
use Rattle.opus_toc.proofs.TocLemmas.{config_of-toc_byte, stereo_of-toc_byte, code_of-toc_byte}
use Rattle.opus_flen.specs.FrameLength.{length_bytes}
use Rattle.opus_flen.specs.PaddingLength.{padding_bytes}
use Rattle.opus_flen.proofs.PaddingReadLemmas.{padding_read-spelled}
use Rattle.opus_packet.specs.Value.{max_duration}
use Rattle.opus_packet.specs.Header.{Header, Sizes, equal, given, frame_count, given_lengths, count_byte, padding_length, count_and_padding, header_bytes}
use Rattle.opus_packet.specs.HeaderRead.{HeaderRead, whole, lengths_read, shape_of, header_of, vbr_of, padded_of, frames_of, is_count, header_read}
use Rattle.opus_packet.specs.PacketPrefix.{AreBytes}
use Rattle.opus_packet.proofs.LengthsReadLemmas.{lengths_read-spelled}
use Rattle.opus_packet.proofs.WayLemmas.{AfterPadding, of_equal, of_given, AfterCount, plain, padded, one, two_equal, two_given, counted, from_way}
use Rattle.opus_packet.proofs.FirstBytes.{count_of, vbr_of-count_of, padded_of-count_of, frames_of-count_of}
use Rattle.opus_packet.proofs.HeaderBegins.{SuitsSizes, IsHeader, header_bytes-is, header_with, padding_length-some, frames-most, header_read-begins}

-- reading the spelling of a header

same_header : (config : ℕ) (stereo : Bool) (code : ℕ) (vbr vbr' : Bool) (pad pad' : ℕ) (sizes sizes' : Sizes)
    → code < 4 → vbr' ≡ vbr → pad' ≡ pad → sizes' ≡ sizes
    → header_of (toc_byte config stereo code) (shape_of code vbr' pad') sizes'
    ≡ header_with config stereo code vbr pad sizes
same_header config stereo code vbr vbr' pad pad' sizes sizes' below v p s =
    λ i. record {
      config = config_of-toc_byte config stereo code below i;
      stereo = stereo_of-toc_byte config stereo code below i;
      shape = shape_of code (v i) (p i);
      sizes = s i;
    }

pub is_count-from : (toc count frames config : ℕ) → config_of toc ≡ config → frames_of count ≡ frames
    → 1 ≤ frames → frames * samples_of config ≤ max_duration → is_count toc count ≡ true
is_count-from toc count frames config c f some lasts =
    let lasts_so : frames_of count * samples_of (config_of toc) ≤ max_duration =
    subst (λ n. n * samples_of (config_of toc) ≤ max_duration) (sym f)
    (subst (λ n. frames * samples_of n ≤ max_duration) (sym c) lasts) in
    and_from (nat_lt 0 (frames_of count)) (nat_le (frames_of count * samples_of (config_of toc)) max_duration)
    (lt-ltb 0 (frames_of count) (omega arith))
    (le-leb (frames_of count * samples_of (config_of toc)) max_duration lasts_so)

-- code 3 behind the count byte, from what stands behind the padding length
count_way_by : (toc count pad : ℕ) (b : Bool) (rest : List ℕ) (r : HeaderRead) → nat_lt 0 pad ≡ b
    → padded_of count ≡ b → pad < 2 ^ 24 → AfterPadding toc count pad rest r
    → AfterCount toc count (padding_length pad ++ rest) r
count_way_by toc count pad true rest r some p limit after =
    let above : 0 < pad = ltb-true 0 pad some in
    let spelled : padding_length pad ≡ padding_bytes pad = padding_length-some pad above in
    let behind : drop (length (padding_bytes pad)) (padding_bytes pad ++ rest) ≡ rest =
    drop_at (padding_bytes pad) rest (length (padding_bytes pad)) refl in
    subst (λ l. AfterCount toc count (l ++ rest) r) (sym spelled)
    (padded p (padding_read-spelled pad rest above limit)
    (subst (λ l. AfterPadding toc count pad l r) (sym behind) after))
count_way_by toc count pad false rest r some p limit after =
    let none : pad ≡ 0 = (let low = ltb-false 0 pad some in omega arith) in
    let spelled : padding_length pad ≡ [] = ap padding_length none in
    subst (λ l. AfterCount toc count (l ++ rest) r) (sym spelled)
    (plain p (subst (λ n. AfterPadding toc count n rest r) none after))

pub count_way : (toc count pad : ℕ) (rest : List ℕ) (r : HeaderRead)
    → padded_of count ≡ nat_lt 0 pad → pad < 2 ^ 24 → AfterPadding toc count pad rest r
    → AfterCount toc count (padding_length pad ++ rest) r
count_way toc count pad rest r p limit after =
    count_way_by toc count pad (nat_lt 0 pad) rest r refl p limit after

-- code 3 behind the padding length
padding_way : (toc count pad : ℕ) (vbr : Bool) (sizes : Sizes) (rest : List ℕ)
    → SuitsSizes 3 vbr pad sizes → vbr_of count ≡ vbr → frames_of count ≡ frame_count sizes
    → (s : Sizes) × (s ≡ sizes)
    × AfterPadding toc count pad (flat_map length_bytes (given_lengths sizes) ++ rest)
    (whole (header_of toc (shape_of 3 vbr pad) s))
padding_way toc count pad vbr (equal frames) rest suits v f =
    let plain_size : vbr ≡ false = suits.1 in (
      equal (frames_of count),
      ap equal f,
      subst (λ b. AfterPadding toc count pad rest (whole (header_of toc (shape_of 3 b pad) (equal (frames_of count)))))
          (sym plain_size) (of_equal (v ∙ plain_size)),
    )
padding_way toc count pad vbr (given lengths) rest suits v f =
    let with_vbr : vbr ≡ true = suits.1 in
    let few : frames_of count - 1 ≡ length lengths = omega arith in
    let read : lengths_read (frames_of count - 1) (flat_map length_bytes lengths ++ rest) ≡ Some lengths =
    ap (λ n. lengths_read n (flat_map length_bytes lengths ++ rest)) few ∙ lengths_read-spelled lengths rest in (
      given lengths,
      refl,
      subst (λ b. AfterPadding toc count pad (flat_map length_bytes lengths ++ rest)
          (whole (header_of toc (shape_of 3 b pad) (given lengths))))
          (sym with_vbr) (of_given (v ∙ with_vbr) read),
    )

-- the spelling of a code 3 header
header_bytes-3 : (config : ℕ) (stereo vbr : Bool) (pad : ℕ) (sizes : Sizes) (rest : List ℕ)
    → header_bytes (header_with config stereo 3 vbr pad sizes) ++ rest
    ≡ toc_byte config stereo 3 ∷ count_byte (shape_of 3 vbr pad) (frame_count sizes)
    ∷ (padding_length pad ++ (flat_map length_bytes (given_lengths sizes) ++ rest))
header_bytes-3 config stereo vbr pad sizes rest =
    let first = toc_byte config stereo 3 in
    let second = count_byte (shape_of 3 vbr pad) (frame_count sizes) in
    ap (λ l. l ++ rest) (header_bytes-is (header_with config stereo 3 vbr pad sizes))
    ∙ ap (λ l. first ∷ (second ∷ l))
    (append_assoc (padding_length pad) (flat_map length_bytes (given_lengths sizes)) rest)

pads-below : (vbr : Bool) (pad : ℕ) (sizes : Sizes) → SuitsSizes 3 vbr pad sizes → pad < 2 ^ 24
pads-below vbr pad (equal count) suits = suits.0
pads-below vbr pad (given lengths) suits = suits.0

read_3 : (config : ℕ) (stereo vbr : Bool) (pad : ℕ) (sizes : Sizes) (rest : List ℕ)
    → IsHeader (header_with config stereo 3 vbr pad sizes)
    → header_read (header_bytes (header_with config stereo 3 vbr pad sizes) ++ rest)
    ≡ whole (header_with config stereo 3 vbr pad sizes)
read_3 config stereo vbr pad sizes rest is =
    let toc = toc_byte config stereo 3 in
    let frames = frame_count sizes in
    let count = count_of vbr (nat_lt 0 pad) frames in
    let few = frames-most config frames is.config is.lasts in
    let below : frames < 64 = omega arith in
    let (s, s_is, after) = padding_way toc count pad vbr sizes rest is.suits
    (vbr_of-count_of vbr (nat_lt 0 pad) frames below) (frames_of-count_of vbr (nat_lt 0 pad) frames below) in
    let ok : is_count toc count ≡ true =
    is_count-from toc count frames config (config_of-toc_byte config stereo 3 (omega arith))
    (frames_of-count_of vbr (nat_lt 0 pad) frames below) is.some is.lasts in
    ap header_read (header_bytes-3 config stereo vbr pad sizes rest)
    ∙ from_way (counted (code_of-toc_byte config stereo 3 (omega arith)) ok
    (count_way toc count pad (flat_map length_bytes (given_lengths sizes) ++ rest)
    (whole (header_of toc (shape_of 3 vbr pad) s))
    (padded_of-count_of vbr (nat_lt 0 pad) frames below) (pads-below vbr pad sizes is.suits) after))
    ∙ ap whole (same_header config stereo 3 vbr vbr pad pad sizes s (omega arith) refl refl s_is)

header_bytes-short : (config : ℕ) (stereo : Bool) (code : ℕ) (vbr : Bool) (pad : ℕ) (sizes : Sizes)
    (rest : List ℕ) → count_and_padding (shape_of code vbr pad) (frame_count sizes) ≡ []
    → header_bytes (header_with config stereo code vbr pad sizes) ++ rest
    ≡ toc_byte config stereo code ∷ (flat_map length_bytes (given_lengths sizes) ++ rest)
header_bytes-short config stereo code vbr pad sizes rest front =
    ap (λ l. l ++ rest) (header_bytes-is (header_with config stereo code vbr pad sizes))
    ∙ ap (λ l. (toc_byte config stereo code ∷ (l ++ flat_map length_bytes (given_lengths sizes))) ++ rest) front

read_by : (config : ℕ) (stereo : Bool) (code : ℕ) (vbr : Bool) (pad : ℕ) (sizes : Sizes) (rest : List ℕ)
    → IsHeader (header_with config stereo code vbr pad sizes)
    → header_read (header_bytes (header_with config stereo code vbr pad sizes) ++ rest)
    ≡ whole (header_with config stereo code vbr pad sizes)
read_by config stereo zero vbr pad (equal count) rest is =
    ap header_read (header_bytes-short config stereo 0 vbr pad (equal count) rest refl)
    ∙ from_way (one (code_of-toc_byte config stereo 0 (omega arith)))
    ∙ ap whole (same_header config stereo 0 vbr false pad 0 (equal count) (equal 1) (omega arith)
    (sym is.suits.0) (sym is.suits.1) (ap equal (sym is.suits.2)))
read_by config stereo zero vbr pad (given lengths) rest is = absurd is.suits
read_by config stereo (suc zero) vbr pad (equal count) rest is =
    ap header_read (header_bytes-short config stereo 1 vbr pad (equal count) rest refl)
    ∙ from_way (two_equal (code_of-toc_byte config stereo 1 (omega arith)))
    ∙ ap whole (same_header config stereo 1 vbr false pad 0 (equal count) (equal 2) (omega arith)
    (sym is.suits.0) (sym is.suits.1) (ap equal (sym is.suits.2)))
read_by config stereo (suc zero) vbr pad (given lengths) rest is = absurd is.suits
read_by config stereo (suc (suc zero)) vbr pad (equal count) rest is = absurd is.suits
read_by config stereo (suc (suc zero)) vbr pad (given lengths) rest is =
    let read : lengths_read 1 (flat_map length_bytes lengths ++ rest) ≡ Some lengths =
    ap (λ n. lengths_read n (flat_map length_bytes lengths ++ rest)) (sym is.suits.2)
    ∙ lengths_read-spelled lengths rest in
    ap header_read (header_bytes-short config stereo 2 vbr pad (given lengths) rest refl)
    ∙ from_way (two_given (code_of-toc_byte config stereo 2 (omega arith)) read)
    ∙ ap whole (same_header config stereo 2 vbr false pad 0 (given lengths) (given lengths) (omega arith)
    (sym is.suits.0) (sym is.suits.1) refl)
read_by config stereo (suc (suc (suc zero))) vbr pad sizes rest is =
    read_3 config stereo vbr pad sizes rest is
read_by config stereo (suc (suc (suc (suc code)))) vbr pad sizes rest is = absurd is.suits

-- what spells a header is read as it
pub header_read-spelled : (h : Header) → IsHeader h → (rest : List ℕ)
    → header_read (header_bytes h ++ rest) ≡ whole h
header_read-spelled h is rest =
    read_by h.config h.stereo h.shape.code h.shape.vbr h.shape.pad h.sizes rest is

-- bytes behind a whole header change nothing
pub header_read-more : (bs : List ℕ) → AreBytes bs → (h : Header) → header_read bs ≡ whole h
    → (more : List ℕ) → header_read (bs ++ more) ≡ whole h
header_read-more bs bytes h read more =
    let found = header_read-begins bs bytes h read in
    ap header_read (ap (λ l. l ++ more) found.spelled ∙ append_assoc (header_bytes h) found.rest more)
    ∙ header_read-spelled h found.is_header (found.rest ++ more)
