use Rattle.opus_packet.proofs.PrefixLemmas.{packet_fault-longest}
use Rattle.opus_packet.proofs.laws.a_fault_stands_at_the_longest_prefix.Goals as goal

pub returns-clause-place : goal.returns-clause-place
returns-clause-place c = packet_fault-longest
