use Rattle.std.proofs.Common.{◌≡◌, ◌≤◌, ◌-◌}
use Rattle.opus_io.specs.Sink.{Onward}
use Rattle.net_jobs.specs.Tell.{lost_records}
use Rattle.net_jobs.proofs.TellLemmas.{Written}
use Rattle.net_jobs.proofs.events.write_lost.Given as goal

abbrev pub invariant-records : goal.invariant-records
invariant-records g l = record {
  in_range : l.written ≤ l.count;
  written : Written (lost_records l.count) (lost_records (l.count - l.written)) (g.O.Sink.contents l.initial.out) (g.O.Sink.contents l.out);
  writes : g.O.Sink.faults l.out ≡ g.O.Sink.faults l.initial.out;
  refusals : g.O.Sink.refusals l.initial.out ≤ g.O.Sink.refusals l.out;
  onward : Onward (g.O.Sink.onto l.initial.out) (g.O.Sink.onto l.out) (g.O.Sink.handed l.initial.out) (g.O.Sink.handed l.out);
}

abbrev pub decreases-records : goal.decreases-records
decreases-records g l = l.count - l.written
