-- Frames that are cut from the ramp and appended one after another.
use Rattle.std.proofs.Common.{◌≡◌, ℕ, ◌+◌, ◌*◌, ◌%◌, ◌<◌, ◌≤◌, List, [], ◌∷◌, ◌++◌, length, get_or, take, drop, map, sum, flat_map, length-append, length-take, length-drop, append_assoc, append-nil, refl, sym, ap, ◌∙◌, arith}
use Rattle.std.specs.List.{range_with_len}
use Rattle.std.proofs.lemmas.List.{take_more, get_or-take, get_or-drop}
use Rattle.std.proofs.lemmas.List.FromFn.{fill_by_all, get_or-map-range_with_len, length-map-range_with_len}
use Rattle.std.proofs.lemmas.List.Sums.{sum_by-cons, sum_by_more, sum_by-take-le}
use Rattle.opus_flen.specs.FrameLength.{length_bytes}
use Rattle.opus_make.specs.Written.{frame_bytes, frames_from}
use Rattle.opus_make.specs.Ramp.{ramp_bytes}

-- a frame is a part of the ramp
pub frame_bytes-cut : (j size : ℕ) → j + size ≤ 347 → take size (drop j ramp_bytes) ≡ frame_bytes j size
unfolding ramp_bytes
frame_bytes-cut j size within =
    let ramp = map (λ i. i % 256) (range_with_len 0 347) in
    let long : length ramp ≡ 347 = length-map-range_with_len (λ i. i % 256) 0 347 in
    fill_by_all (λ t. (j + t) % 256) (take size (drop j ramp)) size 0
    (omega (arith, length-take size (drop j ramp), length-drop j ramp))
    (λ k below. get_or-take size (drop j ramp) k 0 below ∙ get_or-drop j ramp k 0
    ∙ get_or-map-range_with_len (λ i. i % 256) 0 347 (j + k) (j + k) 0 (omega arith) (omega arith))

pub length-frames_from : (j : ℕ) (sizes : List ℕ) → length (frames_from j sizes) ≡ sum sizes
length-frames_from j [] = refl
length-frames_from j (size ∷ sizes) =
    length-append (frame_bytes j size) (frames_from (j + 1) sizes)
    ∙ ap (λ n. n + length (frames_from (j + 1) sizes)) (length-map-range_with_len (λ t. (j + t) % 256) 0 size)
    ∙ ap (λ n. size + n) (length-frames_from (j + 1) sizes)
    ∙ sym (sum_by-cons (λ (n : ℕ). n) size sizes)

frames_from-push : (j : ℕ) (sizes : List ℕ) (size : ℕ)
    → frames_from j (sizes ++ size ∷ []) ≡ frames_from j sizes ++ frame_bytes (j + length sizes) size
frames_from-push j [] size = append-nil (frame_bytes j size) ∙ ap (λ n. frame_bytes n size) (omega arith)
frames_from-push j (first ∷ sizes) size =
    ap (λ l. frame_bytes j first ++ l) (frames_from-push (j + 1) sizes size)
    ∙ sym (append_assoc (frame_bytes j first) (frames_from (j + 1) sizes) (frame_bytes (j + 1 + length sizes) size))
    ∙ ap (λ n. frame_bytes j first ++ frames_from (j + 1) sizes ++ frame_bytes n size) (omega arith)

-- the first frames were appended
pub record FramesSoFar (sizes old : List ℕ) (number : ℕ) (out : List ℕ) : Type 0 where
  pub out_is : out ≡ old ++ frames_from 0 (take number sizes)
  pub size_is : length out ≡ length old + sum (take number sizes)

pub FramesSoFar-more : (sizes old : List ℕ) (number : ℕ) (out frame : List ℕ) → number < length sizes
    → frame ≡ frame_bytes number (get_or sizes number 0) → FramesSoFar sizes old number out
    → FramesSoFar sizes old (number + 1) (out ++ frame)
FramesSoFar-more sizes old number out frame within is so_far =
    let size = get_or sizes number 0 in
    let before = take number sizes in
    let counted : length before ≡ number = omega (arith, length-take number sizes) in
    let long = length-map-range_with_len (λ t. (number + t) % 256) 0 size in
    record {
      out_is = ap (λ l. l ++ frame) so_far.out_is
          ∙ append_assoc old (frames_from 0 before) frame
          ∙ ap (λ l. old ++ (frames_from 0 before ++ l)) is
          ∙ ap (λ n. old ++ (frames_from 0 before ++ frame_bytes n size)) (omega (arith, counted))
          ∙ ap (λ l. old ++ l) (sym (frames_from-push 0 before size))
          ∙ ap (λ l. old ++ frames_from 0 l) (sym (take_more sizes number 0 within));
      size_is = omega (arith, length-append out frame, ap length is, long, so_far.size_is, sum_by_more (λ (n : ℕ). n) sizes number 0 within);
    }

-- the next frame fits where all do
pub sum-within : (sizes : List ℕ) (number : ℕ) → number < length sizes
    → sum (take number sizes) + get_or sizes number 0 ≤ sum sizes
sum-within sizes number within =
    omega (arith, sum_by_more (λ (n : ℕ). n) sizes number 0 within, sum_by-take-le (λ (n : ℕ). n) sizes (number + 1))

-- the bytes with the spelling of the first lengths behind them
pub record Pushed (before lengths : List ℕ) (i : ℕ) (bytes : List ℕ) : Type 0 where
  pub bytes_are : bytes ≡ before ++ flat_map length_bytes (take i lengths)
  pub few : length bytes ≤ length before + 2 * i

-- the bytes of the first frames
pub record Counted (sizes : List ℕ) (i total : ℕ) : Type 0 where
  pub total_is : total ≡ sum (take i sizes)
  pub few : total ≤ 300 * i
