use Rattle.stream_jobs.proofs.NormAgainLemmas.{norm_again}
use Rattle.stream_jobs.proofs.norm_laws.norm_leaves_what_it_wrote_of_streams.Goals as goal

pub returns : goal.returns
returns c = record { again = norm_again }
