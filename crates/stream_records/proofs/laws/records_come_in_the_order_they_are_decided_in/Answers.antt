use Rattle.stream_records.proofs.OrderLemmas.{raw_in_order, demo_in_order}
use Rattle.stream_records.proofs.laws.records_come_in_the_order_they_are_decided_in.Goals as goal

pub returns-clause-raw : goal.returns-clause-raw
returns-clause-raw c = raw_in_order

pub returns-clause-demo : goal.returns-clause-demo
returns-clause-demo c = demo_in_order
