use Rattle.std.proofs.Common.{◌*◌, ap, ◌∙◌}
use Rattle.opus_toc.specs.Configuration.{samples_of}
use Rattle.opus_repack.specs.Collected.{duration_in}
use Rattle.opus_repack.specs.Inside.{value_inside}
use Rattle.opus_repack.proofs.CollectedLemmas.{duration-of_some}
use Rattle.opus_repack.proofs.InsideLemmas.{count-inside}
use Rattle.opus_repack.proofs.repacketizer.Repacketizer.duration.Goals as goal

pub returns-clause-duration : goal.returns-clause-duration
returns-clause-duration c =
    let r = c.self.inside in
    ap (λ n. r.count * n) (c.samples.ensures ∙ ap samples_of c.new.ensures.config)
    ∙ duration-of_some r.count (value_inside r) (count-inside r c.self.invariant) ∙ ap duration_in c.self.view_is
