use Rattle.stream_jobs.proofs.ApartTaken.{apart_taken}
use Rattle.stream_jobs.proofs.JoinAgainLemmas.{joined_again}
use Rattle.stream_jobs.proofs.OneStream.{one_stream}
use Rattle.stream_jobs.proofs.again_laws.join_puts_together_what_apart_wrote.Goals as goal

pub returns-clause-taken : goal.returns-clause-taken
returns-clause-taken c = apart_taken

pub returns-clause-again : goal.returns-clause-again
returns-clause-again c = joined_again

pub returns-clause-one : goal.returns-clause-one
returns-clause-one c = one_stream
