use Rattle.opus_self.proofs.SelfPrefixLemmas.{self_delimited_fault-longest, self_delimited_fault-whole}
use Rattle.opus_self.proofs.laws.a_fault_stands_at_the_longest_prefix.Goals as goal

pub returns-clause-place : goal.returns-clause-place
returns-clause-place c = self_delimited_fault-longest

pub returns-clause-all : goal.returns-clause-all
returns-clause-all c = self_delimited_fault-whole
