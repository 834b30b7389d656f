use Rattle.std.proofs.Common.{◌≤◌, ◌-◌}
use Rattle.rtp_ends.specs.Slots.{AreMarked, AreFreeUpTo}
use Rattle.rtp_ends.proofs.ring.skipped.Given as goal

abbrev pub invariant-places : goal.invariant-places
invariant-places l = record {
  from : l.top ≤ l.at;
  most : l.at ≤ l.to;
  free : AreFreeUpTo l.slots l.top l.at;
  marked : AreMarked l.marks l.slots;
}

abbrev pub decreases-places : goal.decreases-places
decreases-places l = l.to - l.at
