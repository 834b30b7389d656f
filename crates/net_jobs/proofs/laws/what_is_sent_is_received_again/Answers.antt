use Rattle.net_jobs.proofs.AgainLemmas.{sent_ends, sent_again}
use Rattle.net_jobs.proofs.laws.what_is_sent_is_received_again.Goals as goal

pub returns-clause-records : goal.returns-clause-records
returns-clause-records c = sent_ends

pub returns-clause-store : goal.returns-clause-store
returns-clause-store c = sent_again
