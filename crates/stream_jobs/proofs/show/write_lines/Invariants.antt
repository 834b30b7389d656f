use Rattle.std.proofs.Common.{◌≡◌, ◌≤◌, drop}
use Rattle.opus_io.specs.Sink.{Onward}
use Rattle.stream_jobs.specs.Show.{stream_lines}
use Rattle.stream_jobs.proofs.SoFar.{SoFar}
use Rattle.stream_jobs.proofs.show.write_lines.Given as goal

abbrev pub invariant-spellings : goal.invariant-spellings
invariant-spellings g l = record {
  written : SoFar (stream_lines l.number 0 l.spellings l.initial.packets) (stream_lines l.number l.stream (drop l.stream l.spellings) l.packets) (g.O.Sink.contents l.initial.out) (g.O.Sink.contents l.out);
  faults : g.O.Sink.faults l.out ≡ g.O.Sink.faults l.initial.out;
  onward : Onward (g.O.Sink.onto l.initial.out) (g.O.Sink.onto l.out) (g.O.Sink.handed l.initial.out) (g.O.Sink.handed l.out);
  refusals : g.O.Sink.refusals l.initial.out ≤ g.O.Sink.refusals l.out;
}
