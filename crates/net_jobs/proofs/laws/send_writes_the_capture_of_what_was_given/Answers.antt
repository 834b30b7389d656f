use Rattle.net_jobs.proofs.SendLemmas.{taken_outcome, refused_outcome, cut_outcome}
use Rattle.net_jobs.proofs.laws.send_writes_the_capture_of_what_was_given.Goals as goal

pub returns-clause-taken : goal.returns-clause-taken
returns-clause-taken c = taken_outcome

pub returns-clause-refused : goal.returns-clause-refused
returns-clause-refused c = refused_outcome

pub returns-clause-cut : goal.returns-clause-cut
returns-clause-cut c = cut_outcome
