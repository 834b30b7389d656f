use Rattle.std.proofs.Common.{refl}
use Rattle.opus_io.proofs.Onward.{Onward-trans}
use Rattle.job_loop.specs.Telling.{Goes, Stops}
use Rattle.job_loop.specs.declared.input_end.InputEnd.TheVariants.{Closed}
use Rattle.job_loop.proofs.RunLemmas.{meant_end}
use Rattle.opuspack.proofs.MadeEnds.{records_front, finish_front, flush_front}
use Rattle.opuspack.proofs.run_generated.run_to_end.Goals as goal

pub returns-in-Err-clause-front : goal.returns-in-Err-clause-front
returns-in-Err-clause-front g c =
    records_front (g.J.RecordJob.meaning c.args.job.now) (g.J.RecordJob.stands c.take_records.new.job)
    c.args.records.now.item.seed c.args.count _ _ c.in-Err.ensures.front

pub returns-in-Err-finish-clause-front : goal.returns-in-Err-finish-clause-front
returns-in-Err-finish-clause-front g c =
    let m = g.J.RecordJob.meaning c.args.job.now in
    let stands = g.J.RecordJob.stands c.take_records.new.job in
    let p = c.in_default.ensures.ok in
    let mid = g.O.Sink.contents c.take_records.new.out in
    let new = g.O.Sink.contents c.finish.new.out in
    let e = c.in-Err-finish.stop in
    finish_front m stands c.args.records.now.item.seed c.args.count (g.O.Sink.contents c.args.out.now) mid new p e
    (meant_end (g.J.RecordJob.meaning c.take_records.new.job) m (λ end s. Stops e s mid new) p.kept Closed Closed
    c.in_default.ensures.same refl (c.in-Err-finish.ensures.stop p.kept p.job))

pub returns-in-Err-finish-clause-onward : goal.returns-in-Err-finish-clause-onward
returns-in-Err-finish-clause-onward g c =
    Onward-trans _ _ _ _ _ _ c.in_default.ensures.onward c.in-Err-finish.ensures.onward

pub returns-in-Ok-clause-onward : goal.returns-in-Ok-clause-onward
returns-in-Ok-clause-onward g c =
    Onward-trans _ _ _ _ _ _ c.in_default.ensures.onward
    (Onward-trans _ _ _ _ _ _ c.in_default-finish.ensures.onward c.in-Ok.ensures.onward)

pub returns-in-Err-flush-clause-front : goal.returns-in-Err-flush-clause-front
returns-in-Err-flush-clause-front g c =
    let m = g.J.RecordJob.meaning c.args.job.now in
    let stands = g.J.RecordJob.stands c.take_records.new.job in
    let p = c.in_default.ensures.ok in
    let mid = g.O.Sink.contents c.take_records.new.out in
    let new = g.O.Sink.contents c.finish.new.out in
    flush_front m stands c.args.records.now.item.seed c.args.count (g.O.Sink.contents c.args.out.now) mid new
    (g.O.Sink.contents c.flush.new.self) p
    (meant_end (g.J.RecordJob.meaning c.take_records.new.job) m (λ end s. Goes s (λ _. Unit {0}) mid new) p.kept Closed Closed
    c.in_default.ensures.same refl (c.in_default-finish.ensures.ok p.kept p.job)) c.in-Err-flush.ensures.keeps

pub returns-in-Err-flush-clause-onward : goal.returns-in-Err-flush-clause-onward
returns-in-Err-flush-clause-onward g c =
    Onward-trans _ _ _ _ _ _ c.in_default.ensures.onward
    (Onward-trans _ _ _ _ _ _ c.in_default-finish.ensures.onward c.in-Err-flush.ensures.onward)
