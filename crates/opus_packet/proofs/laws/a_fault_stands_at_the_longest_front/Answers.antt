use Rattle.opus_packet.specs.PacketFault.{packet_fault}
use Rattle.opus_packet.proofs.FrontLemmas.{packet_fault-longest_front, IsLongestFront-whole}
use Rattle.opus_packet.proofs.laws.a_fault_stands_at_the_longest_front.Goals as goal

pub returns-clause-place : goal.returns-clause-place
returns-clause-place c = packet_fault-longest_front

pub returns-clause-all : goal.returns-clause-all
returns-clause-all c bytes are = IsLongestFront-whole bytes (packet_fault bytes).place (packet_fault-longest_front bytes are)
