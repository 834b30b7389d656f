-- A packet that was drawn is one by the standard (RFC 6716, 3.2).
use Rattle.std.proofs.Common.{◌≡◌, ℕ, zero, suc, ◌+◌, ◌-◌, ◌*◌, ◌%◌, ◌<◌, ◌≤◌, Bool, true, false, ◌==◌, ◌||◌, if◌then◌else◌, List, [], ◌∷◌, ◌++◌, length, take, map, replicate, flat_map, All, refl, sym, ap, ◌∙◌, subst, length-take, arith}
use Rattle.std.specs.List.{AllByRecursion, concat, range_with_len}
use Rattle.std.proofs.lemmas.List.{length-replicate}
use Rattle.std.proofs.lemmas.List.Elements.{All-head, All-tail}
use Rattle.std.proofs.lemmas.List.FromFn.{length-map-range_with_len}
use Rattle.opus_toc.specs.Toc.{toc_byte}
use Rattle.opus_toc.specs.Configuration.{samples_of}
use Rattle.opus_flen.specs.FrameLength.{length_bytes}
use Rattle.opus_packet.specs.declared.shape.Shape.{Shape}
use Rattle.opus_packet.specs.Value.{IsFrame}
use Rattle.opus_packet.specs.Header.{Sizes, equal, given, header_bytes, frame_count, given_lengths, count_and_padding, padding_data}
use Rattle.opus_packet.specs.PacketGrammar.{HaveOneLength, SuitsCode, header_in, header_for, IsPacket}
use Rattle.opus_packet.specs.PacketPrefix.{AreBytes}
use Rattle.opus_packet.proofs.BytesLemmas.{AreBytes-append}
use Rattle.opus_make.specs.Plan.{FormValue, PlanValue, IsForm, IsPlan, has_lengths}
use Rattle.opus_make.specs.Written as written
use Rattle.opus_make.specs.Written.{frame_bytes, frames_from, header_of, padding_of, packet_of}
use Rattle.opuspack.specs.MadePackets.{frames_with, plan_packet}

-- ---- the frames

frame-length : (j size : ℕ) → length (frame_bytes j size) ≡ size
frame-length j size = length-map-range_with_len (λ t. (j + t) % 256) 0 size

pub frames-lengths : (j : ℕ) (sizes : List ℕ) → map length (frames_with j sizes) ≡ sizes
frames-lengths j [] = refl
frames-lengths j (size ∷ sizes) =
    ap (λ n. n ∷ map length (frames_with (j + 1) sizes)) (frame-length j size) ∙ ap (λ l. size ∷ l) (frames-lengths (j + 1) sizes)

pub frames-count : (j : ℕ) (sizes : List ℕ) → length (frames_with j sizes) ≡ length sizes
frames-count j [] = refl
frames-count j (size ∷ sizes) = ap suc (frames-count (j + 1) sizes)

frames-joined : (j : ℕ) (sizes : List ℕ) → concat (frames_with j sizes) ≡ frames_from j sizes
frames-joined j [] = refl
frames-joined j (size ∷ sizes) = ap (λ l. frame_bytes j size ++ l) (frames-joined (j + 1) sizes)

frames-each : (j : ℕ) (sizes : List ℕ) → All (λ n. n < 300) sizes → AllByRecursion IsFrame (frames_with j sizes)
frames-each j [] short = tt
frames-each j (size ∷ sizes) short =
    let first : size < 300 = All-head (λ n. n < 300) size sizes short in
    (omega (arith, frame-length j size), frames-each (j + 1) sizes (All-tail (λ n. n < 300) size sizes short))

-- each byte of a frame is one
bytes-of : (j : ℕ) (numbers : List ℕ) → AreBytes (map (λ t. (j + t) % 256) numbers)
bytes-of j [] = tt
bytes-of j (t ∷ numbers) = (omega arith, bytes-of j numbers)

pub frames-bytes : (j : ℕ) (sizes : List ℕ) → AreBytes (concat (frames_with j sizes))
frames-bytes j [] = tt
frames-bytes j (size ∷ sizes) =
    AreBytes-append (frame_bytes j size) (concat (frames_with (j + 1) sizes)) (bytes-of j (range_with_len 0 size))
    (frames-bytes (j + 1) sizes)

one-length : (j count size : ℕ) → AllByRecursion (λ frame. length frame ≡ size) (frames_with j (replicate count size))
one-length j zero size = tt
one-length j (suc count) size = (frame-length j size, one-length (j + 1) count size)

-- ---- the header

abbrev pub plan_shape : PlanValue → Shape
plan_shape plan = record { code = plan.form.code; vbr = plan.form.vbr; pad = plan.form.pad }

abbrev sizes_by : Bool → List ℕ → Sizes
sizes_by b lengths = if b then given (take (length lengths - 1) lengths) else equal (length lengths)

count_by : (b : Bool) (lengths : List ℕ) → 1 ≤ length lengths → frame_count (sizes_by b lengths) ≡ length lengths
count_by true lengths some = omega (arith, length-take (length lengths - 1) lengths)
count_by false lengths some = refl

given_by : (b : Bool) (lengths : List ℕ)
    → given_lengths (sizes_by b lengths) ≡ (if b then take (length lengths - 1) lengths else [])
given_by true lengths = refl
given_by false lengths = refl

header-is : (plan : PlanValue) → IsPlan plan
    → header_bytes (header_in plan.config plan.stereo (plan_shape plan) plan.lengths) ≡ header_of plan
unfolding header_bytes
header-is plan is =
    let b = has_lengths plan.form in
    let lengths = plan.lengths in
    let toc = toc_byte plan.config plan.stereo plan.form.code in
    let count : frame_count (sizes_by b lengths) ≡ plan.form.count =
    count_by b lengths (omega (arith, is.counted, is.form.some)) ∙ is.counted in
    ap (λ n. toc ∷ (count_and_padding (plan_shape plan) n ++ flat_map length_bytes (given_lengths (sizes_by b lengths)))) count
    ∙ ap (λ l. toc ∷ (written.count_and_padding plan.form ++ flat_map length_bytes l)) (given_by b lengths)

-- ---- the packet

one_by : (form : FormValue) (lengths : List ℕ) (b : Bool) → has_lengths form ≡ b
    → (has_lengths form ≡ false → (n : ℕ) × (lengths ≡ replicate form.count n)) → b ≡ false → HaveOneLength (frames_with 0 lengths)
one_by form lengths b is equal_if none =
    let same = equal_if (is ∙ none) in
    (same.0, subst (λ l. AllByRecursion (λ frame. length frame ≡ same.0) (frames_with 0 l)) (sym same.1) (one-length 0 form.count same.0))

frames-suit : (samples code count pad : ℕ) (vbr : Bool) (lengths : List ℕ)
    → IsForm samples (record { code = code; vbr = vbr; count = count; pad = pad }) → length (frames_with 0 lengths) ≡ count
    → (((code == 2) || vbr) ≡ false → HaveOneLength (frames_with 0 lengths)) → SuitsCode code vbr pad (frames_with 0 lengths)
frames-suit samples zero count pad vbr lengths is counted one =
    let plain = is.plain (λ three. absurd (cc)) in (plain.0, plain.1, counted ∙ plain.2)
frames-suit samples (suc zero) count pad vbr lengths is counted one =
    let plain = is.plain (λ three. absurd (cc)) in (plain.0, plain.1, counted ∙ plain.2, one plain.0)
frames-suit samples (suc (suc zero)) count pad vbr lengths is counted one =
    let plain = is.plain (λ three. absurd (cc)) in (plain.0, plain.1, counted ∙ plain.2)
frames-suit samples (suc (suc (suc zero))) count pad vbr lengths is counted one = (omega (arith, is.few), one)
frames-suit samples (suc (suc (suc (suc code)))) count pad vbr lengths is counted one = absurd (omega (arith, is.code))

pub packet-is : (plan : PlanValue) → IsPlan plan
    → IsPacket (plan_packet plan) (plan_shape plan) (padding_of plan.form) (packet_of plan)
unfolding packet_of
packet-is plan is =
    let lengths = plan.lengths in
    let frames = frames_with 0 lengths in
    let counted = frames-count 0 lengths ∙ is.counted in
    record {
      value = record {
        config = is.known;
        some = omega (arith, counted, is.form.some);
        most = omega (arith, counted, is.form.most);
        each = frames-each 0 lengths is.short;
        duration = subst (λ n. n * samples_of plan.config ≤ 5760) (sym counted) is.form.within;
      };
      suits = frames-suit (samples_of plan.config) plan.form.code plan.form.count plan.form.pad plan.form.vbr lengths is.form counted
          (one_by plan.form lengths (has_lengths plan.form) refl is.equal);
      padding = length-replicate {A = ℕ} (padding_data plan.form.pad) 0;
      spelled = ap (λ l. l ++ frames_from 0 lengths ++ padding_of plan.form) (sym (header-is plan is))
          ∙ ap (λ l. header_bytes (header_in plan.config plan.stereo (plan_shape plan) l) ++ frames_from 0 lengths ++ padding_of plan.form)
          (sym (frames-lengths 0 lengths))
          ∙ ap (λ l. header_bytes (header_for (plan_packet plan) (plan_shape plan)) ++ l ++ padding_of plan.form)
          (sym (frames-joined 0 lengths));
    }
