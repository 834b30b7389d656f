use Rattle.opus_self.proofs.SelfPrefixLemmas.{prefix_of_self}
use Rattle.opus_self.proofs.laws.what_becomes_a_packet_is_a_prefix.Goals as goal

pub returns : goal.returns
returns c = record { front = prefix_of_self }
