-- The bytes of a packet that was drawn (RFC 6716, 3.2).
use Rattle.std.specs.Prelude.{ℕ, ◌+◌, ◌-◌, ◌*◌, ◌%◌, nat_lt, ◌==◌, if◌then◌else◌, List, [], ◌∷◌, ◌++◌, length, take, replicate, map, flat_map}
use Rattle.std.specs.List.{range_with_len}
use Rattle.opus_toc.specs.Toc.{toc_byte}
use Rattle.opus_flen.specs.FrameLength.{length_bytes}
use Rattle.opus_flen.specs.PaddingLength.{padding_bytes}
use Rattle.opus_make.specs.Plan.{FormValue, PlanValue, has_lengths}

-- byte t of frame j is j + t modulo 256
abbrev pub frame_bytes : ℕ → ℕ → List ℕ
frame_bytes j size = map (λ t. (j + t) % 256) (range_with_len 0 size)

-- frames of these lengths, the first one with number j
abbrev pub frames_from : ℕ → List ℕ → List ℕ
frames_from j [] = []
frames_from j (size ∷ sizes) = frame_bytes j size ++ frames_from (j + 1) sizes

-- the padding length, where there is padding (3.2.5)
abbrev pub padding_length : ℕ → List ℕ
padding_length pad = if nat_lt 0 pad then padding_bytes pad else []

-- the count byte and the padding length, in code 3 alone
abbrev pub count_and_padding : FormValue → List ℕ
count_and_padding form =
    if form.code == 3
    then (128 * (if form.vbr then 1 else 0) + 64 * (if nat_lt 0 form.pad then 1 else 0) + form.count)
    ∷ padding_length form.pad
    else []

-- the lengths that stand in the header: all but the last
abbrev pub given_lengths : PlanValue → List ℕ
given_lengths plan =
    if has_lengths plan.form then take (length plan.lengths - 1) plan.lengths else []

abbrev pub header_of : PlanValue → List ℕ
header_of plan =
    toc_byte plan.config plan.stereo plan.form.code
    ∷ (count_and_padding plan.form ++ flat_map length_bytes (given_lengths plan))

-- zeros, as many as the padding total has besides its length bytes
abbrev pub padding_of : FormValue → List ℕ
padding_of form = replicate (form.pad - length (padding_length form.pad)) 0

unfoldable pub packet_of : PlanValue → List ℕ
packet_of plan = header_of plan ++ frames_from 0 plan.lengths ++ padding_of plan.form
