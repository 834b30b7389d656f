use Rattle.std.proofs.Common.{refl, sym, subst}
use Rattle.rtp_ends.specs.Receives.{ReceiverStands, HasArrived}
use Rattle.example_gateway.specs.Datagrams.{heard_of}
use Rattle.example_gateway.proofs.gateway.Gateway.take.Goals as goal

pub returns-in-Err-clause-cause : goal.returns-in-Err-clause-cause
returns-in-Err-clause-cause c = (c.in-Err.ensures.fault c.in-Err.fault).0 refl

-- what is read is the one packet that the bytes are
pub returns-clause-heard : goal.returns-clause-heard
returns-clause-heard c heard p stands is_rtp =
    subst
    (λ q. HasArrived c.arrive.new.self heard (heard_of q) c.in_ok-answer.answer c.args.out.now.items c.arrive.new.out.items)
    (c.in-Ok.ensures.only p is_rtp)
    (c.in_ok-answer.ensures.ok heard (subst (λ s. ReceiverStands s heard) (sym c.self.view_is) stands))
