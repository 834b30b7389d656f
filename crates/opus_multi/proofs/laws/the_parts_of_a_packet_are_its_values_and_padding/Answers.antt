use Rattle.opus_multi.proofs.PartsLemmas.{all_values, all_tails}
use Rattle.opus_multi.proofs.laws.the_parts_of_a_packet_are_its_values_and_padding.Goals as goal

pub returns-clause-values : goal.returns-clause-values
returns-clause-values c = all_values

pub returns-clause-padding : goal.returns-clause-padding
returns-clause-padding c = all_tails
