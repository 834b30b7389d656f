use Rattle.std.proofs.Common.{◌≡◌, refl}
use Rattle.job_ends.proofs.EndsLemmas.{unstarted_ends}
use Rattle.job_ends.specs.Ends.{seen_as}
use Rattle.job_ends.proofs.over.run_over.Goals as goal

pub returns-in_default : goal.returns-in_default
returns-in_default g c = λ m is layout layout_is settled place place_is.
    unstarted_ends g.R.Told.tells place m (g.F.Form.settles layout) (g.F.Form.ends layout) c.args.limit
    (seen_as (g.S.Source.left c.args.source.now) (g.S.Source.faults c.args.source.now)
    (g.O.Sink.contents c.args.out.now) (g.O.Sink.faults c.args.out.now) (g.O.Sink.refusals c.args.out.now))
    (c.args.source.now ≡ c.args.source.now) refl settled

pub returns-in-Err : goal.returns-in-Err
returns-in-Err g c = λ m is layout layout_is settled place place_is.
    unstarted_ends g.R.Told.tells place m (g.F.Form.settles layout) (g.F.Form.ends layout) c.args.limit
    (seen_as (g.S.Source.left c.args.source.now) (g.S.Source.faults c.args.source.now)
    (g.O.Sink.contents c.args.out.now) (g.O.Sink.faults c.args.out.now) (g.O.Sink.refusals c.args.out.now))
    (c.args.source.now ≡ c.args.source.now) refl settled
