use Rattle.opuspack.specs.Head.{head, TellsHead}
use Rattle.opuspack.specs.Whole.{WholeSettles, WholeEnds, place_of}
use Rattle.job_ends.proofs.EndsLemmas.{ends_wanting}
use Rattle.opuspack.proofs.HeadLemmas.{head_unstarted}
use Rattle.opuspack.proofs.head.head_job.Goals as goal

pub returns-in-Err : goal.returns-in-Err
returns-in-Err g c = head_unstarted c.args.limit _

pub returns-in-Ok : goal.returns-in-Ok
returns-in-Ok g c = ends_wanting TellsHead place_of head WholeSettles WholeEnds c.args.limit _ _ _ (Unit {0}) c.run_told.result (λ w. tt) c.run_told.ensures
