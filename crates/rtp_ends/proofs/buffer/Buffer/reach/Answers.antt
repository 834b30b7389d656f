use Rattle.std.proofs.Common.{◌+◌, ◌-◌, ◌<◌, ◌≤◌, length, vec_len, vec_capacity, subst, sym, arith}
use Rattle.rtp_ends.specs.Holding.{room_for}
use Rattle.rtp_ends.proofs.HoldingLemmas.{Gave-trans, room-left}
use Rattle.rtp_ends.proofs.buffer.Buffer.reach.Goals as goal

roomy : (c : goal.After-skip)
    → vec_len c.give.new.out + room_for c.skip.new.self.kept (c.args.to - c.skip.new.self.top) ≤ vec_capacity c.give.new.out
roomy c =
    let give = c.give.ensures in
    let less : c.places.self.top < c.args.to = subst (λ n. n < c.args.to) c.top.ensures.top c.places-test.true in
    let on : c.places.self.top + 1 ≤ c.skip.new.self.top = subst (λ n. n ≤ c.skip.new.self.top) give.top c.skip.ensures.from in
    subst (λ n. vec_len c.give.new.out + room_for c.skip.new.self.kept (c.args.to - c.skip.new.self.top) ≤ n)
    (sym give.capacity)
    (subst
    (λ l. vec_len c.give.new.out + room_for l (c.args.to - c.skip.new.self.top) ≤ vec_capacity c.places.out)
    (sym c.skip.ensures.kept)
    (room-left (vec_len c.places.out) (vec_len c.give.new.out) (vec_capacity c.places.out) (length c.places.self.kept)
    (length c.give.new.self.kept) c.args.to c.places.self.top c.skip.new.self.top c.places.invariant.room give.room give.one
    less on))

pub places-preserved : goal.places-preserved
places-preserved c = record {
  gave = Gave-trans c.args.self.now c.places.self c.give.new.self c.skip.new.self c.args.out.now.items c.places.out.items
      c.give.new.out.items c.places.invariant.gave c.give.ensures.gave c.skip.ensures.kept c.skip.ensures.last
      c.skip.ensures.from;
  room = roomy c;
  most = (let less = c.places-test.true in let top = c.top.ensures.top in let on = c.skip.ensures.most in omega arith);
}
