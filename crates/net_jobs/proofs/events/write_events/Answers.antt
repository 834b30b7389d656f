use Rattle.std.proofs.Common.{◌+◌, arith, ◌∙◌, subst, drop}
use Rattle.opus_io.proofs.Onward.{Onward-trans}
use Rattle.net_jobs.specs.Tell.{event_text, events_text}
use Rattle.net_jobs.proofs.TellLemmas.{Written, written_more, written_front, events_left}
use Rattle.net_jobs.proofs.events.write_events.Goals as goal

pub returns-in-Err-clause-front : goal.returns-in-Err-clause-front
returns-in-Err-clause-front g c =
    let t = c.args.telling in
    let all = c.args.events.now in
    let i = c.loop-event.event-index in
    let d = c.event-item.result in
    let left = events_left t all i d c.loop-event-test.true d c.event-item.is in
    written_front (events_text t all) (event_text t d) (events_text t (drop (i + 1) all)) (g.O.Sink.contents c.args.out.now)
    (g.O.Sink.contents c.loop-event.out) (g.O.Sink.contents c.write_event.new.out)
    (subst (λ l. Written (events_text t all) l (g.O.Sink.contents c.args.out.now) (g.O.Sink.contents c.loop-event.out)) left
    c.loop-event.invariant.written) c.in-Err.ensures.front

pub returns-in-Err-clause-onward : goal.returns-in-Err-clause-onward
returns-in-Err-clause-onward g c =
    Onward-trans _ _ _ _ _ _ c.loop-event.invariant.onward c.in-Err.ensures.onward

pub loop-event-preserved : goal.loop-event-preserved
loop-event-preserved g c =
    let v = c.loop-event.invariant in
    let e = c.in_default.ensures in
    let t = c.args.telling in
    let all = c.args.events.now in
    let i = c.loop-event.event-index in
    let d = c.event-item.result in
    let left = events_left t all i d c.loop-event-test.true d c.event-item.is in
    record {
      written = written_more (events_text t all) (event_text t d) (events_text t (drop (i + 1) all))
          (g.O.Sink.contents c.args.out.now) (g.O.Sink.contents c.loop-event.out) (g.O.Sink.contents c.write_event.new.out)
          (subst (λ l. Written (events_text t all) l (g.O.Sink.contents c.args.out.now) (g.O.Sink.contents c.loop-event.out)) left v.written)
          e.ok;
      writes = e.cause.still ∙ v.writes;
      refusals = omega (arith, v.refusals, e.cause.later_refused);
      onward = Onward-trans _ _ _ _ _ _ v.onward e.onward;
    }
