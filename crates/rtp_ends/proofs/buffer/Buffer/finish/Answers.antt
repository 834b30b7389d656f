use Rattle.std.proofs.Common.{subst, arith}
use Rattle.rtp_ends.specs.Slots.{AreWithin}
use Rattle.rtp_ends.proofs.HoldingLemmas.{nothing-left}
use Rattle.rtp_ends.proofs.buffer.Buffer.finish.Goals as goal

pub returns-clause-none : goal.returns-clause-none
returns-clause-none c =
    let gave = c.reach.ensures.gave in
    nothing-left c.args.self.now.top c.reach.new.self.top gave.0 c.reach.new.self.kept
    (subst (λ l. AreWithin c.args.self.now.top l) gave.1.kept_are c.top-to.ensures.within)
    c.reach.ensures.within
    (let to = c.reach.ensures.to in let top = c.top-to.ensures.top in omega arith)
