use Rattle.stream_jobs.proofs.LawLemmas.{extract-held}
use Rattle.stream_jobs.proofs.laws.extract_writes_the_stream_that_is_chosen.Goals as goal

pub returns : goal.returns
returns c = extract-held
