use Rattle.std.proofs.Common.{subst}
use Rattle.opus_io.proofs.Onward.{Onward-trans}
use Rattle.job_loop.specs.Telling.{Stops}
use Rattle.job_loop.proofs.StepLemmas.{refused_halts}
use Rattle.job_loop.proofs.hand.hand.Goals as goal

pub returns-in-Err-Refused-clause-halt : goal.returns-in-Err-Refused-clause-halt
returns-in-Err-Refused-clause-halt g c = λ k stands.
    let step = (g.J.RecordJob.meaning c.args.job.now).step k c.args.item.now in
    let old = g.O.Sink.contents c.args.out.now in
    let mid = g.O.Sink.contents c.take.new.out in
    refused_halts step old mid _ c.refuse.ensures.keeps c.refuse.result c.in-Err-Refused.refusal _
    (subst (λ s. Stops s step old mid) c.in-Err-Refused.field-0-is (c.in-Err-Refused.ensures.stop k stands))
    c.refuse.ensures.refusing

pub returns-in-Err-Refused-clause-onward : goal.returns-in-Err-Refused-clause-onward
returns-in-Err-Refused-clause-onward g c =
    Onward-trans _ _ _ _ _ _ c.take.ensures.onward c.refuse.ensures.onward
