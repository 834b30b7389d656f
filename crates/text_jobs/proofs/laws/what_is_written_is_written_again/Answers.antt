use Rattle.text_jobs.proofs.AgainLemmas.{same_again}
use Rattle.text_jobs.proofs.laws.what_is_written_is_written_again.Goals as goal

pub returns : goal.returns
returns c = same_again
