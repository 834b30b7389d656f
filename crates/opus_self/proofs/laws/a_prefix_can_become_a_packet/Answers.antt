use Rattle.opus_self.proofs.SelfPrefixLemmas.{self_becomes}
use Rattle.opus_self.proofs.laws.a_prefix_can_become_a_packet.Goals as goal

pub returns : goal.returns
returns c = record { becomes = self_becomes }
