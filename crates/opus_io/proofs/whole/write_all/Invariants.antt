use Rattle.std.proofs.Common.{◌≡◌, ◌≤◌, ◌-◌, length, take}
use Rattle.std.specs.Io.KnownBytes.{Appends}
use Rattle.opus_io.specs.Sink.{Onward}
use Rattle.opus_io.proofs.whole.write_all.Given as goal

abbrev pub invariant-loop-at : goal.invariant-loop-at
invariant-loop-at g l = record {
  in_range : l.at ≤ length l.bytes;
  written : Appends (g.O.Sink.contents l.initial.sink) (g.O.Sink.contents l.sink) (take l.at l.bytes);
  faults : g.O.Sink.faults l.sink ≡ g.O.Sink.faults l.initial.sink;
  onward : Onward (g.O.Sink.onto l.initial.sink) (g.O.Sink.onto l.sink) (g.O.Sink.handed l.initial.sink) (g.O.Sink.handed l.sink);
  refusals : g.O.Sink.refusals l.initial.sink ≤ g.O.Sink.refusals l.sink;
}

abbrev pub decreases-loop-at : goal.decreases-loop-at
decreases-loop-at g l = length l.bytes - l.at
