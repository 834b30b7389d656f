use Rattle.opus_multi.proofs.OnlyLemmas.{fault_once, fault_none}
use Rattle.opus_multi.proofs.laws.a_list_has_one_fault_or_none.Goals as goal

pub returns-clause-one : goal.returns-clause-one
returns-clause-one c = fault_once

pub returns-clause-none : goal.returns-clause-none
returns-clause-none c = fault_none
