use Rattle.std.proofs.Common.{[], OnErr, subst}
use Rattle.opus_io.proofs.Onward.{Onward-trans}
use Rattle.job_loop.specs.Telling.{Front}
use Rattle.pack_jobs.specs.Merge.{group_text}
use Rattle.pack_jobs.specs.MergeStands.{open_group}
use Rattle.pack_jobs.specs.Records.{record_bytes}
use Rattle.pack_jobs.proofs.MergeLemmas.{first_front, second_front}
use Rattle.pack_jobs.proofs.merge.Merge.lose.Goals as goal

pub returns-in_err-close-clause-front : goal.returns-in_err-close-clause-front
returns-in_err-close-clause-front g c =
    let m = c.args.self.now in
    first_front c.from_residual.result (group_text m.form (open_group m)) (record_bytes m.form c.args.range [])
    (g.O.Sink.contents c.args.out.now) (g.O.Sink.contents c.close.new.out) c.in_err-close.ensures.front

pub returns-clause-front : goal.returns-clause-front
returns-clause-front g c =
    let m = c.args.self.now in
    second_front c.write_record.result (group_text m.form (open_group m)) (record_bytes m.form c.args.range [])
    (g.O.Sink.contents c.args.out.now) (g.O.Sink.contents c.close.new.out) (g.O.Sink.contents c.write_record.new.out)
    c.in_ok-close.ensures.ok
    (subst (λ form. OnErr c.write_record.result (Front (record_bytes form c.args.range [])
    (g.O.Sink.contents c.close.new.out) (g.O.Sink.contents c.write_record.new.out))) c.close.ensures.form
    c.write_record.ensures.front)

pub returns-clause-onward : goal.returns-clause-onward
returns-clause-onward g c = Onward-trans _ _ _ _ _ _ c.close.ensures.onward c.write_record.ensures.onward
