use Rattle.stream_jobs.proofs.LawLemmas.{apart-held}
use Rattle.stream_jobs.proofs.laws.apart_writes_a_record_for_each_stream.Goals as goal

pub returns : goal.returns
returns c = apart-held
