use Rattle.std.proofs.Common.{◌∙◌, Some}
use Rattle.std.proofs.lemmas.List.{length-set}
use Rattle.rtp_ends.proofs.RingLemmas.{state-put}
use Rattle.rtp_ends.proofs.WindowLemmas.{window-within, length-window}
use Rattle.rtp_ends.proofs.ring.Ring.put.Goals as goal

pub returns-clause-kept : goal.returns-clause-kept
returns-clause-kept c =
    state-put c.self.inside.slots.items c.self.inside.top c.args.place c.slot_of-slot.result c.args.kept c.args.self.now
    c.self.invariant.sized c.self.invariant.high c.self.view_is c.requires.above c.requires.most c.requires.free
    c.slot_of-slot.ensures.slot

pub returns-clause-within : goal.returns-clause-within
returns-clause-within c =
    window-within _ c.self.inside.top
    (length-set c.self.inside.slots.items c.slot_of-slot.result (Some c.args.kept) ∙ c.self.invariant.sized)
    c.self.invariant.high

pub returns-clause-most : goal.returns-clause-most
returns-clause-most c =
    length-window _ c.self.inside.top
    (length-set c.self.inside.slots.items c.slot_of-slot.result (Some c.args.kept) ∙ c.self.invariant.sized)
