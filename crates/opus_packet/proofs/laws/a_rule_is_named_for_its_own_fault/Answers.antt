use Rattle.opus_packet.proofs.FrontLemmas.{packet_fault-R5, packet_fault-R2}
use Rattle.opus_packet.proofs.laws.a_rule_is_named_for_its_own_fault.Goals as goal

pub returns-clause-count : goal.returns-clause-count
returns-clause-count c = packet_fault-R5

pub returns-clause-long : goal.returns-clause-long
returns-clause-long c = packet_fault-R2
