-- Parts of a value that follow each other.
use Rattle.std.proofs.Common.{◌≡◌, ℕ, ◌+◌, ◌-◌, ◌≤◌, List, [], ◌∷◌, ◌++◌, length, take, drop, sum, flat_map, sym, ap, ◌∙◌, arith, take_all}
use Rattle.std.specs.List.{slice_range}
use Rattle.std.proofs.Math.Seq.{take-add}
use Rattle.std.proofs.lemmas.List.{drop-drop}
use Rattle.opus_packet.specs.Value.{PacketValue}
use Rattle.opus_packet.proofs.CutLemmas.{sum-cons}
use Rattle.opus_repack.specs.Parts.{parts_from}

pub slice-append : (fs : List (List ℕ)) (from mid to : ℕ) → from ≤ mid → mid ≤ to
    → slice_range fs from mid ++ slice_range fs mid to ≡ slice_range fs from to
slice-append fs from mid to below above =
    let up : from + (mid - from) ≡ mid = omega arith in
    let all : (mid - from) + (to - mid) ≡ to - from = omega arith in
    ap (λ k. slice_range fs from mid ++ take (to - mid) (drop k fs)) (sym up)
    ∙ ap (λ l. slice_range fs from mid ++ take (to - mid) l) (sym (drop-drop (mid - from) from fs))
    ∙ sym (take-add (mid - from) (to - mid) (drop from fs))
    ∙ ap (λ k. take k (drop from fs)) all

parts-frames : (v : PacketValue) (from : ℕ) (ns : List ℕ)
    → flat_map (λ p. p.frames) (parts_from v from ns) ≡ slice_range v.frames from (from + sum ns)
parts-frames v from [] =
    let none : from + sum [] - from ≡ 0 = omega arith in
    sym (ap (λ k. take k (drop from v.frames)) none)
parts-frames v from (n ∷ ns) =
    let whole = sum-cons n ns in
    let end : from + n + sum ns ≡ from + sum (n ∷ ns) = omega arith in
    ap (λ fs. slice_range v.frames from (from + n) ++ fs) (parts-frames v (from + n) ns)
    ∙ slice-append v.frames from (from + n) (from + n + sum ns) (omega arith) (omega arith)
    ∙ ap (λ k. slice_range v.frames from k) end

pub parts-all : (v : PacketValue) (ns : List ℕ) → sum ns ≡ length v.frames
    → flat_map (λ p. p.frames) (parts_from v 0 ns) ≡ v.frames
parts-all v ns is =
    let end : 0 + sum ns - 0 ≡ length v.frames = omega arith in
    parts-frames v 0 ns ∙ ap (λ k. take k v.frames) end ∙ take_all (length v.frames) v.frames (omega arith)
