use Rattle.opus_packet.proofs.PrefixLemmas.{becomes}
use Rattle.opus_packet.proofs.laws.a_prefix_can_become_a_packet.Goals as goal

pub returns : goal.returns
returns c = record { becomes = becomes }
