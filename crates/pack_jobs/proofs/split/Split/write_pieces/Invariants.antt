use Rattle.std.proofs.Common.{◌-◌, ◌≡◌, ◌≤◌}
use Rattle.opus_io.specs.Sink.{Onward}
use Rattle.pack_jobs.proofs.PieceLemmas.{HasWritten}
use Rattle.pack_jobs.proofs.split.Split.write_pieces.Given as goal

abbrev pub invariant-pieces : goal.invariant-pieces
invariant-pieces g l = record {
  in_range : l.from ≤ l.all;
  form : l.self.form ≡ l.initial.self.form;
  most : l.self.most ≡ l.initial.self.most;
  frames : l.self.frames ≡ l.initial.self.frames;
  written : HasWritten l.initial.self.form l.range l.initial.self.most l.packet.value l.from (g.O.Sink.contents l.initial.out) (g.O.Sink.contents l.out);
  faults : g.O.Sink.faults l.out ≡ g.O.Sink.faults l.initial.out;
  onward : Onward (g.O.Sink.onto l.initial.out) (g.O.Sink.onto l.out) (g.O.Sink.handed l.initial.out) (g.O.Sink.handed l.out);
  refusals : g.O.Sink.refusals l.initial.out ≤ g.O.Sink.refusals l.out;
}

abbrev pub decreases-pieces : goal.decreases-pieces
decreases-pieces g l = l.all - l.from
