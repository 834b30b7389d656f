use Rattle.std.proofs.Common.{◌+◌, ◌-◌, arith, ◌∙◌, subst}
use Rattle.opus_io.proofs.Onward.{Onward-trans}
use Rattle.net_jobs.specs.Tell.{lost_records}
use Rattle.net_jobs.proofs.TellLemmas.{Written, written_more, written_front, lost_left}
use Rattle.net_jobs.proofs.events.write_lost.Goals as goal

pub returns-in-Err-clause-front : goal.returns-in-Err-clause-front
returns-in-Err-clause-front g c =
    let count = c.args.count in
    let at = c.records.written in
    let next = c.min-next.result in
    let left = lost_left count at next (omega (arith, c.min-next.ensures)) in
    written_front (lost_records count) (lost_records next) (lost_records (count - (at + next))) (g.O.Sink.contents c.args.out.now)
    (g.O.Sink.contents c.records.out) (g.O.Sink.contents c.write_some_lost.new.out)
    (subst (λ l. Written (lost_records count) l (g.O.Sink.contents c.args.out.now) (g.O.Sink.contents c.records.out)) left c.records.invariant.written)
    c.in-Err.ensures.front

pub returns-in-Err-clause-onward : goal.returns-in-Err-clause-onward
returns-in-Err-clause-onward g c =
    Onward-trans _ _ _ _ _ _ c.records.invariant.onward c.in-Err.ensures.onward

pub records-preserved : goal.records-preserved
records-preserved g c =
    let v = c.records.invariant in
    let e = c.in_default.ensures in
    let count = c.args.count in
    let at = c.records.written in
    let next = c.min-next.result in
    let fits = c.min-next.ensures in
    let left = lost_left count at next (omega (arith, fits)) in
    record {
      in_range = omega (arith, fits, v.in_range);
      written = written_more (lost_records count) (lost_records next) (lost_records (count - (at + next)))
          (g.O.Sink.contents c.args.out.now) (g.O.Sink.contents c.records.out) (g.O.Sink.contents c.write_some_lost.new.out)
          (subst (λ l. Written (lost_records count) l (g.O.Sink.contents c.args.out.now) (g.O.Sink.contents c.records.out)) left v.written)
          e.ok;
      writes = e.cause.still ∙ v.writes;
      refusals = omega (arith, v.refusals, e.cause.later_refused);
      onward = Onward-trans _ _ _ _ _ _ v.onward e.onward;
    }
