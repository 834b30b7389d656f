use Rattle.stream_jobs.proofs.ShortLemmas.{short_told}
use Rattle.stream_jobs.proofs.join_laws.a_short_group_is_told_at_the_end.Goals as goal

pub returns : goal.returns
returns c = short_told
