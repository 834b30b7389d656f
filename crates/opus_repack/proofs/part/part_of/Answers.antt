use Rattle.std.proofs.Common.{◌+◌, ◌≤◌, ℕ, length, map, sym, ap, ◌∙◌, arith}
use Rattle.std.proofs.lemmas.List.Sums.{sum_by-le}
use Rattle.opus_packet.specs.Value.{max_frame}
use Rattle.opus_packet.specs.Canonical.{canonical_shape}
use Rattle.opus_repack.proofs.CutLemmas.{slice-cut, sum-slice, lengths-slice}
use Rattle.opus_repack.proofs.part.part_of.Goals as goal

-- the part's bytes are among those of all frames
within : (c : goal.After-size_of) → c.size_of-start.result + c.size_of.result ≤ length c.args.body.now
within c = omega (arith, sum-slice c.args.lens.now c.args.from c.args.to, c.size_of-start.ensures, c.size_of.ensures, c.requires.whole)

pub overflow_add-body : goal.overflow_add-body
overflow_add-body c =
    omega (arith, within c, c.requires.whole, c.requires.most, sum_by-le (λ (n : ℕ). n) max_frame c.args.lens.now c.requires.each)

pub slice_bounds-body-end : goal.slice_bounds-body-end
slice_bounds-body-end c = within c

pub returns-clause-frames : goal.returns-clause-frames
returns-clause-frames c =
    c.of_frames.ensures.frames
    ∙ slice-cut c.args.body.now c.args.lens.now c.args.from c.args.to c.size_of-start.result c.size_of.result c.size_of-start.ensures c.size_of.ensures

pub returns-clause-shape : goal.returns-clause-shape
returns-clause-shape c =
    c.of_frames.ensures.shape
    ∙ ap canonical_shape (
    sym (lengths-slice c.args.body.now c.args.lens.now c.args.from c.args.to c.requires.whole)
    ∙ ap (λ fs. map (length {A = ℕ}) fs) (sym (returns-clause-frames c))
    )
