use Rattle.opus_self.proofs.SelfFrontLemmas.{self_delimited_fault-R5}
use Rattle.opus_self.proofs.laws.a_rule_is_named_for_its_own_fault.Goals as goal

pub returns : goal.returns
returns c = record { count = self_delimited_fault-R5 }
