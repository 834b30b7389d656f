use Rattle.std.proofs.Common.{Some}
use Rattle.rtp_ends.proofs.SentLemmas.{stands-more}
use Rattle.rtp_ends.proofs.sender.Sender.send.Goals as goal

pub returns-clause-stands : goal.returns-clause-stands
returns-clause-stands c = λ records is. stands-more c.args.self.now c.pass.new.self records (Some c.args.packet.now.value) c.duration.result is c.duration.ensures.duration c.pass.ensures
