use Rattle.opus_packet.proofs.GrammarLemmas.{IsPacket-unique}
use Rattle.opus_packet.proofs.laws.a_list_has_one_reading.Goals as goal

pub returns-clause-value : goal.returns-clause-value
returns-clause-value c = λ v w s u tail rest bytes p q. (IsPacket-unique v w s u tail rest bytes p q).0

pub returns-clause-shape : goal.returns-clause-shape
returns-clause-shape c = λ v w s u tail rest bytes p q. (IsPacket-unique v w s u tail rest bytes p q).1

pub returns-clause-padding : goal.returns-clause-padding
returns-clause-padding c = λ v w s u tail rest bytes p q. (IsPacket-unique v w s u tail rest bytes p q).2
