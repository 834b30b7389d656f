use Rattle.std.proofs.Common.{List, subst}
use Rattle.rtp_ends.specs.declared.event.Event.{Event}
use Rattle.rtp_ends.specs.Holding.{Gave}
use Rattle.rtp_ends.specs.Receives.{ReceiverState, held_of}
use Rattle.rtp_ends.proofs.ReceiverLemmas.{closed}
use Rattle.rtp_ends.proofs.receiver.Receiver.close.Goals as goal

pub returns-clause-ok : goal.returns-clause-ok
returns-clause-ok c = λ heard is.
    closed c.args.self.now heard is.0 c.finish.new.self c.args.out.now.items c.finish.new.out.items is.1
    (subst (λ (s : ReceiverState). Gave (held_of s) c.finish.new.self c.args.out.now.items c.finish.new.out.items)
    c.self.view_is
    (subst (λ (l : List Event). Gave c.self.inside.buffer c.finish.new.self l c.finish.new.out.items)
    c.in_ok-reserve.ensures.items c.finish.ensures.gave))
    c.finish.ensures.none
