use Rattle.stream_jobs.proofs.ApartJoined.{apart-joined}
use Rattle.stream_jobs.proofs.laws.what_apart_writes_joins_to_what_norm_writes.Goals as goal

pub returns : goal.returns
returns c = apart-joined
