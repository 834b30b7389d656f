use Rattle.pack_records.proofs.SomeLemmas.{raw_has_records, demo_has_records, self_has_records}
use Rattle.pack_records.proofs.laws.each_input_has_records.Goals as goal

pub returns-clause-raw : goal.returns-clause-raw
returns-clause-raw c = raw_has_records

pub returns-clause-demo : goal.returns-clause-demo
returns-clause-demo c = demo_has_records

pub returns-clause-self_delimited : goal.returns-clause-self_delimited
returns-clause-self_delimited c = self_has_records
