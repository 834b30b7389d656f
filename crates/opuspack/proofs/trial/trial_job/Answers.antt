use Rattle.std.proofs.Common.{◌≡◌, List, ℕ, subst}
use Rattle.opuspack.specs.WritesText.{WritesText}
use Rattle.opuspack.proofs.TrialLemmas.{trial_text-is}
use Rattle.opuspack.proofs.trial.trial_job.Goals as goal

pub returns : goal.returns
returns g c =
    let out = c.args.out.now in
    let new = c.run_generated.new.out in
    subst (λ (t : List ℕ). WritesText t (g.O.Sink.contents out) (g.O.Sink.contents new) (g.O.Sink.faults out) (g.O.Sink.faults new)
    (g.O.Sink.refusals out) (g.O.Sink.refusals new) (new ≡ out) c.run_generated.result)
    (trial_text-is c.args.seed c.args.count c.ranges.count.fits) c.run_generated.ensures
