use Rattle.stream_records.proofs.SomeLemmas.{raw_has_records, demo_has_records}
use Rattle.stream_records.proofs.laws.each_input_has_records.Goals as goal

pub returns-clause-raw : goal.returns-clause-raw
returns-clause-raw c = raw_has_records

pub returns-clause-demo : goal.returns-clause-demo
returns-clause-demo c = demo_has_records
