use Rattle.std.proofs.Common.{length, sym, ap, ◌∙◌, arith}
use Rattle.opus_repack.specs.Collected.{frames_in}
use Rattle.opus_repack.specs.Inside.{value_inside}
use Rattle.opus_repack.proofs.CollectedLemmas.{count-in}
use Rattle.opus_repack.proofs.InsideLemmas.{count-inside, size-inside}
use Rattle.opus_repack.proofs.repacketizer.Repacketizer.part.Goals as goal

pub slice_bounds-body-end : goal.slice_bounds-body-end
slice_bounds-body-end c = size-inside c.self.inside c.deref.result.now c.self.invariant c.deref.ensures.value

pub part_of-requires-clause-within : goal.part_of-requires-clause-within
part_of-requires-clause-within c =
    let r = c.self.inside in
    let count = count-in r.count (value_inside r) (count-inside r c.self.invariant) ∙ ap (λ v. length (frames_in v)) c.self.view_is in
    omega (arith, count, c.self.invariant.counted, c.requires.within)

pub part_of-requires-clause-whole : goal.part_of-requires-clause-whole
part_of-requires-clause-whole c =
    sym c.self.invariant.fills ∙ size-inside c.self.inside c.deref.result.now c.self.invariant c.deref.ensures.value
