use Rattle.std.proofs.Common.{sym}
use Rattle.job_ends.proofs.FirstLemmas.{ok_as, err_as}
use Rattle.stream_jobs.proofs.check.CheckRecordJobStreamsItemCut.finish.Goals as goal

pub returns-clause-ok : goal.returns-clause-ok
returns-clause-ok g c =
    ok_as c.end_by_first.result (λ goes k stands. rw (sym stands.count, sym stands.first) goes)
    (c.end_by_first.ensures.ok (g.O.Sink.contents c.args.arg3.now))

pub returns-clause-stop : goal.returns-clause-stop
returns-clause-stop g c =
    err_as c.end_by_first.result (λ e stopped k stands. rw (sym stands.count, sym stands.first) stopped)
    (c.end_by_first.ensures.stop (g.O.Sink.contents c.args.arg3.now))

pub returns-clause-cause : goal.returns-clause-cause
returns-clause-cause g c =
    c.end_by_first.ensures.cause (g.O.Sink.faults c.args.arg3.now) (g.O.Sink.refusals c.args.arg3.now)
