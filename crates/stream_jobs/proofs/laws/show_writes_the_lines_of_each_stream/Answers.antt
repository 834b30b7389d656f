use Rattle.stream_jobs.proofs.LawLemmas.{show-held}
use Rattle.stream_jobs.proofs.laws.show_writes_the_lines_of_each_stream.Goals as goal

pub returns : goal.returns
returns c = show-held
