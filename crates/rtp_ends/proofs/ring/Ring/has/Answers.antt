use Rattle.rtp_ends.proofs.RingLemmas.{state-has}
use Rattle.rtp_ends.proofs.ring.Ring.has.Goals as goal

pub returns : goal.returns
returns c =
    state-has c.self.inside.slots.items c.self.inside.top c.args.place c.slot_of.result c.args.self.now
    c.index.result.now c.is_some.result c.self.invariant.sized c.self.invariant.high c.self.view_is
    c.requires.above c.requires.most c.slot_of.ensures.slot c.index.ensures c.is_some.ensures
