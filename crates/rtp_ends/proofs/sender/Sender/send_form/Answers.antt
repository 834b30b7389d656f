use Rattle.std.proofs.Common.{Some}
use Rattle.rtp_ends.proofs.SentLemmas.{stands-more}
use Rattle.rtp_ends.proofs.sender.Sender.send_form.Goals as goal

pub returns-clause-stands : goal.returns-clause-stands
returns-clause-stands c = λ records v is lasts.
    stands-more c.args.self.now c.pass.new.self records (Some v) c.args.samples is lasts c.pass.ensures
