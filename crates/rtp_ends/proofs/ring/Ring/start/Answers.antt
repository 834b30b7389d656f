use Rattle.std.proofs.Common.{ap, ◌∙◌}
use Rattle.rtp_ends.specs.Slots.{RingState}
use Rattle.rtp_ends.proofs.RingLemmas.{state-started}
use Rattle.rtp_ends.proofs.ring.Ring.start.Goals as goal

pub returns : goal.returns
returns c =
    state-started c.self.inside.slots.items c.self.inside.top c.args.top c.self.invariant.sized c.self.invariant.high
    (ap (λ (s : RingState). s.kept) c.self.view_is ∙ c.requires.free)
