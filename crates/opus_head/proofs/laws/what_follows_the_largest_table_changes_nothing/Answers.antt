use Rattle.opus_head.proofs.LongerLemmas.{head_fault-longer}
use Rattle.opus_head.proofs.LongerHeadLemmas.{head-longer}
use Rattle.opus_head.proofs.laws.what_follows_the_largest_table_changes_nothing.Goals as goal

pub returns-clause-fault : goal.returns-clause-fault
returns-clause-fault c = head_fault-longer

pub returns-clause-head : goal.returns-clause-head
returns-clause-head c = head-longer
