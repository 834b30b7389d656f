use Rattle.std.proofs.Common.{◌≡◌, ◌≤◌}
use Rattle.std.specs.Io.KnownBytes.{Appends}
use Rattle.opus_io.specs.Sink.{Onward}
use Rattle.opuspack.specs.Texts.{all_texts}
use Rattle.opuspack.proofs.texts.write_texts.Given as goal

abbrev pub invariant-loop-index : goal.invariant-loop-index
invariant-loop-index g l = record {
  written : Appends (g.O.Sink.contents l.initial.out) (g.O.Sink.contents l.out) (all_texts (g.T.Texts.told l.texts) l.index);
  writes : g.O.Sink.faults l.out ≡ g.O.Sink.faults l.initial.out;
  refusals : g.O.Sink.refusals l.initial.out ≤ g.O.Sink.refusals l.out;
  onward : Onward (g.O.Sink.onto l.initial.out) (g.O.Sink.onto l.out) (g.O.Sink.handed l.initial.out) (g.O.Sink.handed l.out);
}
