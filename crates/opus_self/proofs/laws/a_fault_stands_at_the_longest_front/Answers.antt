use Rattle.opus_self.proofs.SelfFrontLemmas.{self_delimited_fault-longest_front, self_delimited_fault-becomes}
use Rattle.opus_self.proofs.laws.a_fault_stands_at_the_longest_front.Goals as goal

pub returns-clause-place : goal.returns-clause-place
returns-clause-place c = self_delimited_fault-longest_front

pub returns-clause-all : goal.returns-clause-all
returns-clause-all c = self_delimited_fault-becomes
