use Rattle.std.proofs.Common.{◌≡◌, ◌≤◌, drop}
use Rattle.opus_io.specs.Sink.{Onward}
use Rattle.net_jobs.specs.Tell.{events_text}
use Rattle.net_jobs.proofs.TellLemmas.{Written}
use Rattle.net_jobs.proofs.events.write_events.Given as goal

abbrev pub invariant-loop-event : goal.invariant-loop-event
invariant-loop-event g l = record {
  written : Written (events_text l.telling l.events) (events_text l.telling (drop l.event-index l.events)) (g.O.Sink.contents l.initial.out) (g.O.Sink.contents l.out);
  writes : g.O.Sink.faults l.out ≡ g.O.Sink.faults l.initial.out;
  refusals : g.O.Sink.refusals l.initial.out ≤ g.O.Sink.refusals l.out;
  onward : Onward (g.O.Sink.onto l.initial.out) (g.O.Sink.onto l.out) (g.O.Sink.handed l.initial.out) (g.O.Sink.handed l.out);
}
