use Rattle.std.proofs.Common.{◌≡◌, ◌-◌, ◌≤◌}
use Rattle.std.specs.Io.KnownBytes.{Keeps, append_known}
use Rattle.opus_io.specs.Sink.{Onward}
use Rattle.job_loop.specs.Gathered.{held_in, inner_sink, inner_name}
use Rattle.job_loop.proofs.gathered.Gathered.hand_on.Given as goal

abbrev pub invariant-loop-self : goal.invariant-loop-self
invariant-loop-self g l = record {
  keeps : Keeps (append_known (g.O.Sink.contents (inner_sink l.initial.self)) (held_in l.initial.self))
      (append_known (g.O.Sink.contents (inner_sink l.self)) (held_in l.self));
  faults : g.O.Sink.faults (inner_sink l.self) ≡ g.O.Sink.faults (inner_sink l.initial.self);
  refusals : g.O.Sink.refusals (inner_sink l.initial.self) ≤ g.O.Sink.refusals (inner_sink l.self);
  onward : Onward (inner_name l.initial.self) (inner_name l.self) (g.O.Sink.contents (inner_sink l.initial.self))
      (g.O.Sink.contents (inner_sink l.self));
}

abbrev pub decreases-loop-self : goal.decreases-loop-self
decreases-loop-self g l = l.self.end - l.self.start
