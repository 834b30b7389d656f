-- A whole header with so many bytes behind it is a packet.
use Rattle.std.proofs.Common.{◌≡◌, ℕ, zero, suc, ◌+◌, ◌-◌, ◌*◌, ◌≤◌, Bool, List, [], ◌∷◌, ◌++◌, map, length, take, drop, sum, refl, sym, ap, ◌∙◌, subst, append_assoc, length-append, length-take-le, length-drop, take-append-drop, drop_at, drop-drop, arith}
use Rattle.std.specs.List.{AllByRecursion, concat}
use Rattle.std.proofs.lemmas.List.{length-replicate}
use Rattle.opus_toc.specs.Configuration.{samples_of}
use Rattle.opus_packet.specs.Value.{IsPacketValue, IsFrame, max_frame, max_duration}
use Rattle.opus_packet.specs.Header.{Header, Sizes, equal, given, frame_count, given_lengths, frame_lengths, body_size, padding_data, header_bytes}
use Rattle.opus_packet.specs.PacketGrammar.{SuitsCode, Suits, sizes_for, header_for, IsPacket}
use Rattle.opus_packet.specs.HeaderRead.{whole, shape_of, header_read}
use Rattle.opus_packet.specs.HeaderStands.{value_at}
use Rattle.opus_packet.specs.PacketPrefix.{AreBytes}
use Rattle.opus_packet.specs.Cut.{cut}
use Rattle.opus_packet.proofs.LengthsReadLemmas.{AreLengths, AreLengths-replicate}
use Rattle.opus_packet.proofs.HeaderLemmas.{SuitsSizes, IsHeader, header_read-begins, frames-most}
use Rattle.opus_packet.proofs.CutLemmas.{sum-push, sum-replicate, length-cut, lengths-cut, concat-cut, frames-each, have_length, AreLengths-push}
use Rattle.opus_packet.proofs.LensLemmas.{take-push}

-- all lengths that a header tells

pub length-frame_lengths : (sizes : Sizes) (n : ℕ) → length (frame_lengths sizes n) ≡ frame_count sizes
length-frame_lengths (equal count) n = length-replicate count n
length-frame_lengths (given lengths) n = length-append lengths (n ∷ [])

pub sum-frame_lengths : (sizes : Sizes) (n : ℕ) → sum (frame_lengths sizes n) ≡ body_size sizes n
sum-frame_lengths (equal count) n = sum-replicate count n
sum-frame_lengths (given lengths) n = sum-push lengths n

pub AreLengths-frame_lengths : (sizes : Sizes) (n : ℕ) → AreLengths (given_lengths sizes) → n ≤ max_frame
    → AreLengths (frame_lengths sizes n)
AreLengths-frame_lengths (equal count) n each fits = AreLengths-replicate count n fits
AreLengths-frame_lengths (given lengths) n each fits = AreLengths-push lengths n each fits

-- the sizes in a header are those of its frames

pub sizes_for-frame_lengths : (code : ℕ) (vbr : Bool) (pad : ℕ) (sizes : Sizes) (n : ℕ)
    → SuitsSizes code vbr pad sizes → sizes_for (shape_of code vbr pad) (frame_lengths sizes n) ≡ sizes
sizes_for-frame_lengths zero vbr pad (equal count) n suits =
    rw (suits.0) (ap equal (length-replicate count n))
sizes_for-frame_lengths zero vbr pad (given lengths) n suits = absurd suits
sizes_for-frame_lengths (suc zero) vbr pad (equal count) n suits =
    rw (suits.0) (ap equal (length-replicate count n))
sizes_for-frame_lengths (suc zero) vbr pad (given lengths) n suits = absurd suits
sizes_for-frame_lengths (suc (suc zero)) vbr pad (equal count) n suits = absurd suits
sizes_for-frame_lengths (suc (suc zero)) vbr pad (given lengths) n suits =
    ap given (take-push lengths n)
sizes_for-frame_lengths (suc (suc (suc zero))) vbr pad (equal count) n suits =
    rw (suits.1) (ap equal (length-replicate count n))
sizes_for-frame_lengths (suc (suc (suc zero))) vbr pad (given lengths) n suits =
    rw (suits.1) (ap given (take-push lengths n))
sizes_for-frame_lengths (suc (suc (suc (suc code)))) vbr pad sizes n suits = absurd suits

-- frames of these lengths suit the code

pub SuitsCode-from_sizes : (code : ℕ) (vbr : Bool) (pad : ℕ) (sizes : Sizes) (n : ℕ) (frames : List (List ℕ))
    → SuitsSizes code vbr pad sizes → map length frames ≡ frame_lengths sizes n
    → length frames ≡ frame_count sizes → SuitsCode code vbr pad frames
SuitsCode-from_sizes zero vbr pad (equal count) n frames suits e size =
    (suits.0, suits.1, size ∙ suits.2)
SuitsCode-from_sizes zero vbr pad (given lengths) n frames suits e size = absurd suits
SuitsCode-from_sizes (suc zero) vbr pad (equal count) n frames suits e size =
    (suits.0, suits.1, size ∙ suits.2, (n, have_length frames count n e))
SuitsCode-from_sizes (suc zero) vbr pad (given lengths) n frames suits e size = absurd suits
SuitsCode-from_sizes (suc (suc zero)) vbr pad (equal count) n frames suits e size = absurd suits
SuitsCode-from_sizes (suc (suc zero)) vbr pad (given lengths) n frames suits e size =
    let single : length lengths ≡ 1 = suits.2 in
    (suits.0, suits.1, omega arith)
SuitsCode-from_sizes (suc (suc (suc zero))) vbr pad (equal count) n frames suits e size =
    (suits.0, λ v. (n, have_length frames count n e))
SuitsCode-from_sizes (suc (suc (suc zero))) vbr pad (given lengths) n frames suits e size =
    (suits.0, λ v. (let with_vbr = suits.1 in cc))
SuitsCode-from_sizes (suc (suc (suc (suc code)))) vbr pad sizes n frames suits e size = absurd suits

-- a whole header with so many bytes behind it is a packet

value_is : (h : Header) (n : ℕ) (bs body : List ℕ) → IsHeader h → n ≤ max_frame
    → take (body_size h.sizes n) (drop (length (header_bytes h)) bs) ≡ body
    → length body ≡ body_size h.sizes n
    → IsPacketValue (value_at h n bs) × Suits h.shape (value_at h n bs).frames
    × (concat (value_at h n bs).frames ≡ body)
    × (map length (value_at h n bs).frames ≡ frame_lengths h.sizes n)
value_is h n bs body is fits e size =
    let lengths = frame_lengths h.sizes n in
    let frames = cut body lengths in
    let total = sum-frame_lengths h.sizes n in
    let same : (value_at h n bs).frames ≡ frames = ap (λ l. cut l lengths) e in
    let sizes_are : map length frames ≡ lengths = lengths-cut body lengths (omega arith) in
    let count_is : length frames ≡ frame_count h.sizes = length-cut body lengths ∙ length-frame_lengths h.sizes n in
    let count_of_value : length (value_at h n bs).frames ≡ frame_count h.sizes = ap length same ∙ count_is in
    let few = frames-most h.config (frame_count h.sizes) is.config is.lasts in
    let some = is.some in
    let each : AllByRecursion IsFrame frames =
    frames-each frames (subst AreLengths (sym sizes_are) (AreLengths-frame_lengths h.sizes n is.are_lengths fits)) in (
      record {
        config = is.config;
        some = omega arith;
        most = omega arith;
        each = subst (AllByRecursion IsFrame) (sym same) each;
        duration = subst (λ m. m * samples_of h.config ≤ max_duration) (sym count_of_value) is.lasts;
      },
      subst (Suits h.shape) (sym same)
          (SuitsCode-from_sizes h.shape.code h.shape.vbr h.shape.pad h.sizes n frames is.suits sizes_are count_is),
      ap concat same ∙ concat-cut body lengths (omega arith),
      ap (map length) same ∙ sizes_are,
    )

header_for-value_at : (h : Header) (n : ℕ) (bs : List ℕ) → IsHeader h
    → map length (value_at h n bs).frames ≡ frame_lengths h.sizes n
    → header_for (value_at h n bs) h.shape ≡ h
header_for-value_at h n bs is e =
    let sizes : sizes_for h.shape (map length (value_at h n bs).frames) ≡ h.sizes =
    ap (sizes_for h.shape) e
    ∙ sizes_for-frame_lengths h.shape.code h.shape.vbr h.shape.pad h.sizes n is.suits in
    λ i. record { config = h.config; stereo = h.stereo; shape = h.shape; sizes = sizes i }

pub found : (bs : List ℕ) → AreBytes bs → (h : Header) → header_read bs ≡ whole h
    → (n : ℕ) → n ≤ max_frame
    → length bs ≡ length (header_bytes h) + body_size h.sizes n + padding_data h.shape.pad
    → IsPacket (value_at h n bs) h.shape
    (drop (length (header_bytes h) + body_size h.sizes n) bs) bs
found bs bytes h read n fits size =
    let begins = header_read-begins bs bytes h read in
    let front = length (header_bytes h) in
    let body = body_size h.sizes n in
    let rest = drop front bs in
    let rest_is : rest ≡ begins.rest =
    ap (drop front) begins.spelled ∙ drop_at (header_bytes h) begins.rest front refl in
    let rest_size : length rest ≡ length bs - front = length-drop front bs in
    let body_is : length (take body rest) ≡ body = length-take-le body rest (omega arith) in
    let tail = drop (front + body) bs in
    let tail_is : drop body rest ≡ tail = drop-drop body front bs in
    let tail_size : length tail ≡ length bs - (front + body) = length-drop (front + body) bs in
    let (value, suits, joined, lengths) = value_is h n bs (take body rest) begins.is_header fits refl body_is in
    let header = header_for-value_at h n bs begins.is_header lengths in
    record {
      value = value;
      suits = suits;
      padding = omega arith;
      spelled = begins.spelled
          ∙ ap (λ l. header_bytes h ++ l) (sym rest_is ∙ sym (take-append-drop body rest)
          ∙ ap (λ l. take body rest ++ l) tail_is ∙ ap (λ l. l ++ tail) (sym joined))
          ∙ sym (append_assoc (header_bytes h) (concat (value_at h n bs).frames) tail)
          ∙ ap (λ g. header_bytes g ++ concat (value_at h n bs).frames ++ tail) (sym header);
    }
