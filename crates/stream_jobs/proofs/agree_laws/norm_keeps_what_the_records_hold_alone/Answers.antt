use Rattle.stream_jobs.proofs.AgreeLemmas.{norm_agree}
use Rattle.stream_jobs.proofs.ContentsLemmas.{norm_contents}
use Rattle.stream_jobs.proofs.PaddingLemmas.{bare_held, kept_held}
use Rattle.stream_jobs.proofs.agree_laws.norm_keeps_what_the_records_hold_alone.Goals as goal

pub returns-clause-same : goal.returns-clause-same
returns-clause-same c = norm_agree

pub returns-clause-contents : goal.returns-clause-contents
returns-clause-contents c = norm_contents

pub returns-clause-kept : goal.returns-clause-kept
returns-clause-kept c = kept_held

pub returns-clause-dropped : goal.returns-clause-dropped
returns-clause-dropped c = bare_held
