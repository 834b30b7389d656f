use Rattle.std.proofs.Common.{sym, subst}
use Rattle.opus_io.proofs.Onward.{Onward-trans}
use Rattle.job_loop.specs.Telling.{Stops, Refusing, Closes}
use Rattle.job_loop.proofs.StepLemmas.{goes_front, refused_closes, stopped_closes}
use Rattle.job_loop.proofs.hand.close.Goals as goal

pub returns-in-Ok-flush-clause-onward : goal.returns-in-Ok-flush-clause-onward
returns-in-Ok-flush-clause-onward g c = Onward-trans _ _ _ _ _ _ c.finish.ensures.onward c.flush.ensures.onward

pub returns-in-Err-clause-onward : goal.returns-in-Err-clause-onward
returns-in-Err-clause-onward g c = Onward-trans _ _ _ _ _ _ c.finish.ensures.onward c.flush.ensures.onward

pub returns-in-Err-Refused-clause-onward : goal.returns-in-Err-Refused-clause-onward
returns-in-Err-Refused-clause-onward g c =
    Onward-trans _ _ _ _ _ _ c.finish.ensures.onward c.refuse.ensures.onward

pub returns-in-Err-clause-closes : goal.returns-in-Err-clause-closes
returns-in-Err-clause-closes g c = λ k stands.
    let step = (g.J.RecordJob.meaning c.args.job.now).finish k c.args.end in
    let old = g.O.Sink.contents c.args.out.now in
    let new = g.O.Sink.contents c.flush.new.self in
    let held = g.O.Gather.held c.flush.new.self in
    subst (λ e. Closes e c.args.end step old new held) (sym c.stopped.ensures)
    (stopped_closes c.in-Err.stop c.args.end step old new held
    (goes_front step old (g.O.Sink.contents c.finish.new.out) new c.flush.ensures.keeps (λ _. Unit {0})
    (c.in-Ok.ensures.ok k stands)))

pub returns-in-Err-Refused-clause-closes : goal.returns-in-Err-Refused-clause-closes
returns-in-Err-Refused-clause-closes g c = λ k stands.
    let step = (g.J.RecordJob.meaning c.args.job.now).finish k c.args.end in
    let old = g.O.Sink.contents c.args.out.now in
    let mid = g.O.Sink.contents c.finish.new.out in
    let held = g.O.Gather.held c.refuse.new.out in
    refused_closes step old mid _ c.refuse.ensures.keeps c.refuse.result c.args.end c.in-Err-Refused.refusal _
    (subst (λ s. Stops s step old mid) c.in-Err-Refused.field-0-is (c.in-Err-Refused.ensures.stop k stands))
    (subst (λ r. Refusing r c.refuse.result held) c.in-Err-Refused.refusal-is c.refuse.ensures.refusing)
