use Rattle.stream_jobs.proofs.GroupsLemmas.{joins-groups, groups-joins}
use Rattle.stream_jobs.proofs.join_laws.join_writes_each_group_as_one_record.Goals as goal

pub returns : goal.returns
returns c streams rs text some = (joins-groups streams rs text some, groups-joins streams rs text some)
