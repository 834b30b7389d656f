use Rattle.std.proofs.Common.{◌≡◌, ◌-◌, ◌<◌}
use Rattle.rec_store.proofs.OpeningReads.{InLine}
use Rattle.rec_store.proofs.dump_reader.take_line.Given as goal

abbrev pub decreases-line : goal.decreases-line
decreases-line g l = 256 - l.seen

abbrev pub invariant-line : goal.invariant-line
invariant-line g l = record {
  line : InLine l.seen l.initial.input l.input (g.S.Source.left l.initial.source) (g.S.Source.left l.source);
  room : l.seen < 256;
  cause : g.S.Source.faults l.source ≡ g.S.Source.faults l.initial.source;
}
