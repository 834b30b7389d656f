use Rattle.std.proofs.Common.{None, ap}
use Rattle.rtp_ends.specs.Sends.{SenderState}
use Rattle.rtp_ends.proofs.SentLemmas.{stands-more}
use Rattle.rtp_ends.proofs.sender.Sender.skip.Goals as goal

pub returns-clause-stands : goal.returns-clause-stands
returns-clause-stands c = λ records is.
    stands-more c.args.self.now c.pass-2.new.self records None c.pass.inside.step is
    (ap (λ (s : SenderState). s.step) c.pass.view_is) c.pass-2.ensures
