use Rattle.stream_jobs.proofs.LawLemmas.{norm-held, norm-dropped}
use Rattle.stream_jobs.proofs.laws.norm_writes_the_kept_form_of_all_streams.Goals as goal

pub returns-clause-dropped : goal.returns-clause-dropped
returns-clause-dropped c = norm-dropped

pub returns-clause-kept : goal.returns-clause-kept
returns-clause-kept c = norm-held
