use Rattle.opus_multi.proofs.OnlyLemmas.{values_once, tails_once}
use Rattle.opus_multi.proofs.laws.a_list_has_one_list_of_values.Goals as goal

pub returns-clause-values : goal.returns-clause-values
returns-clause-values c = values_once

pub returns-clause-padding : goal.returns-clause-padding
returns-clause-padding c = tails_once
