use Rattle.dump_records.proofs.SomeLemmas.{has_records, settled_in_order}
use Rattle.dump_records.proofs.laws.each_input_has_records_in_order.Goals as goal

pub returns-clause-some : goal.returns-clause-some
returns-clause-some c = has_records

pub returns-clause-order : goal.returns-clause-order
returns-clause-order c = settled_in_order
