use Rattle.pack_jobs.proofs.GroupRuns.{merge_all}
use Rattle.pack_jobs.proofs.laws.merge_writes_each_group_as_one_packet.Goals as goal

pub returns : goal.returns
returns c = record { written = merge_all }
