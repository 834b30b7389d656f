use Rattle.rtp_packet.proofs.ReadingLemmas.{spelled-unique}
use Rattle.rtp_packet.proofs.laws.bytes_are_one_packet.Goals as goal

pub returns : goal.returns
returns c = record { same = spelled-unique }
