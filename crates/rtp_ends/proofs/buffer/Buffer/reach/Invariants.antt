use Rattle.std.proofs.Common.{◌≤◌, ◌-◌, ◌+◌, vec_len, vec_capacity}
use Rattle.rtp_ends.specs.Holding.{Gave, room_for}
use Rattle.rtp_ends.proofs.buffer.Buffer.reach.Given as goal

abbrev pub invariant-places : goal.invariant-places
invariant-places l = record {
  gave : Gave l.initial.self l.self l.initial.out.items l.out.items;
  room : vec_len l.out + room_for l.self.kept (l.to - l.self.top) ≤ vec_capacity l.out;
  most : l.self.top ≤ l.to + (l.initial.self.top - l.to);
}

abbrev pub decreases-places : goal.decreases-places
decreases-places l = l.to - l.self.top
