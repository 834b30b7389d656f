use Rattle.opus_packet.proofs.PrefixLemmas.{prefix_of_packet}
use Rattle.opus_packet.proofs.laws.what_becomes_a_packet_is_a_prefix.Goals as goal

pub returns : goal.returns
returns c = record { front = prefix_of_packet }
