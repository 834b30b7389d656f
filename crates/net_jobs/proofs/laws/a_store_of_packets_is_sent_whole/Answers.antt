use Rattle.net_jobs.proofs.StoreLemmas.{sent_whole, settled_few}
use Rattle.net_jobs.proofs.laws.a_store_of_packets_is_sent_whole.Goals as goal

pub returns-clause-whole : goal.returns-clause-whole
returns-clause-whole c = sent_whole

pub returns-clause-few : goal.returns-clause-few
returns-clause-few c = settled_few
