use Rattle.std.proofs.Common.{◌≡◌, ◌≤◌, length}
use Rattle.opus_io.specs.Sink.{Onward}
use Rattle.stream_jobs.specs.StreamsIn.{streams_in}
use Rattle.stream_jobs.specs.Apart.{stream_records}
use Rattle.stream_jobs.proofs.SoFar.{SoFar}
use Rattle.stream_jobs.proofs.apart.write_streams.Given as goal

abbrev pub invariant-packets : goal.invariant-packets
invariant-packets g l = record {
  written : SoFar (stream_records (streams_in l.streams l.bytes)) (stream_records l.packets) (g.O.Sink.contents l.initial.out) (g.O.Sink.contents l.out);
  faults : g.O.Sink.faults l.out ≡ g.O.Sink.faults l.initial.out;
  onward : Onward (g.O.Sink.onto l.initial.out) (g.O.Sink.onto l.out) (g.O.Sink.handed l.initial.out) (g.O.Sink.handed l.out);
  refusals : g.O.Sink.refusals l.initial.out ≤ g.O.Sink.refusals l.out;
}

abbrev pub decreases-packets : goal.decreases-packets
decreases-packets g l = length l.packets
