use Rattle.std.proofs.Common.{◌+◌, ◌-◌, ◌∙◌, arith}
use Rattle.opus_io.proofs.Onward.{Onward-trans}
use Rattle.pack_jobs.proofs.PieceLemmas.{on_stop}
use Rattle.stream_jobs.specs.Apart.{lost_record, lost_records}
use Rattle.stream_jobs.proofs.ApartLemmas.{lost-next}
use Rattle.stream_jobs.proofs.SoFar.{SoFar-more, SoFar-front}
use Rattle.stream_jobs.proofs.apart.write_lost.Goals as goal

pub lost-preserved : goal.lost-preserved
lost-preserved g c =
    let now = c.lost.invariant in
    let e = c.in_ok-write_record.ensures in
    let at = c.lost.counter in
    record {
      written = SoFar-more (lost_records c.args.streams) (lost_records (c.args.streams - at)) lost_record
          (lost_records (c.args.streams - (at + 1))) (g.O.Sink.contents c.args.out.now) (g.O.Sink.contents c.lost.out)
          (g.O.Sink.contents c.write_record.new.out) (lost-next c.args.streams at c.lost-test.true) now.written e.ok;
      faults = e.cause.still ∙ now.faults;
      onward = Onward-trans _ _ _ _ _ _ now.onward e.onward;
      refusals = omega (arith, now.refusals, e.cause.later_refused);
    }

pub returns-in_err-write_record-clause-front : goal.returns-in_err-write_record-clause-front
returns-in_err-write_record-clause-front g c =
    let at = c.lost.counter in
    on_stop c.from_residual.result _
    (SoFar-front (lost_records c.args.streams) (lost_records (c.args.streams - at)) lost_record
    (lost_records (c.args.streams - (at + 1))) (g.O.Sink.contents c.args.out.now) (g.O.Sink.contents c.lost.out)
    (g.O.Sink.contents c.write_record.new.out) (lost-next c.args.streams at c.lost-test.true) c.lost.invariant.written
    c.in_err-write_record.ensures.front)

pub returns-in_err-write_record-clause-onward : goal.returns-in_err-write_record-clause-onward
returns-in_err-write_record-clause-onward g c =
    Onward-trans _ _ _ _ _ _ c.lost.invariant.onward c.write_record.ensures.onward
