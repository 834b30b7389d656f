use Rattle.std.proofs.Common.{ap, sym, ◌∙◌, arith}
use Rattle.rtp_ends.specs.Slots.{has_place}
use Rattle.rtp_ends.specs.Receives.{ReceiverState}
use Rattle.rtp_ends.proofs.CertainLemmas.{within-none}
use Rattle.rtp_ends.proofs.receiver.Receiver.has.Goals as goal

pub returns-then-top-place : goal.returns-then-top-place
returns-then-top-place c =
    let top = c.top.ensures.top in
    let less = c.if-top-place.true in
    sym (within-none c.self.inside.buffer.top c.args.place c.self.inside.buffer.kept c.self.invariant.within (omega arith))
    ∙ ap (λ (s : ReceiverState). has_place c.args.place s.kept) c.self.view_is
