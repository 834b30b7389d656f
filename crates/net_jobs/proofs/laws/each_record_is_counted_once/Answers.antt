use Rattle.net_jobs.proofs.CountLemmas.{received_counted, received_records}
use Rattle.net_jobs.proofs.laws.each_record_is_counted_once.Goals as goal

pub returns-clause-records : goal.returns-clause-records
returns-clause-records c = received_records

pub returns-clause-sum : goal.returns-clause-sum
returns-clause-sum c = λ asked rs. (received_counted asked rs).sum

pub returns-clause-packets : goal.returns-clause-packets
returns-clause-packets c = λ asked rs. (received_counted asked rs).packets

pub returns-clause-repeats : goal.returns-clause-repeats
returns-clause-repeats c = λ asked rs. (received_counted asked rs).arrivals
