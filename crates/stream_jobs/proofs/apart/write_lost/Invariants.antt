use Rattle.std.proofs.Common.{◌≡◌, ◌≤◌, ◌-◌}
use Rattle.opus_io.specs.Sink.{Onward}
use Rattle.stream_jobs.specs.Apart.{lost_records}
use Rattle.stream_jobs.proofs.SoFar.{SoFar}
use Rattle.stream_jobs.proofs.apart.write_lost.Given as goal

abbrev pub invariant-lost : goal.invariant-lost
invariant-lost g l = record {
  written : SoFar (lost_records l.streams) (lost_records (l.streams - l.counter)) (g.O.Sink.contents l.initial.out) (g.O.Sink.contents l.out);
  faults : g.O.Sink.faults l.out ≡ g.O.Sink.faults l.initial.out;
  onward : Onward (g.O.Sink.onto l.initial.out) (g.O.Sink.onto l.out) (g.O.Sink.handed l.initial.out) (g.O.Sink.handed l.out);
  refusals : g.O.Sink.refusals l.initial.out ≤ g.O.Sink.refusals l.out;
}
