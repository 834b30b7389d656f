use Rattle.std.proofs.Common.{◌+◌, ◌∙◌, arith}
use Rattle.std.proofs.lemmas.List.{length-set}
use Rattle.rtp_ends.proofs.RingLemmas.{state-raise}
use Rattle.rtp_ends.proofs.WindowLemmas.{window-within}
use Rattle.rtp_ends.proofs.ring.Ring.raise.Goals as goal

pub returns-clause-kept : goal.returns-clause-kept
returns-clause-kept c =
    state-raise c.self.inside.slots.items c.self.inside.top c.slot_of.result c.args.self.now c.index_mut.result.now
    c.take.result c.take.new.self c.self.invariant.sized c.self.invariant.high c.self.view_is c.slot_of.ensures.slot
    c.index_mut.ensures.value c.take.ensures.value c.take.ensures.after

pub returns-clause-within : goal.returns-clause-within
returns-clause-within c =
    window-within _ (c.self.inside.top + 1)
    (length-set c.self.inside.slots.items c.slot_of.result c.take.new.self ∙ c.self.invariant.sized)
    (let high = c.self.invariant.high in omega arith)
