use Rattle.pack_jobs.proofs.NormAgain.{norm_again}
use Rattle.pack_jobs.proofs.laws.norm_leaves_what_it_wrote.Goals as goal

pub returns : goal.returns
returns c = record { again = norm_again }
