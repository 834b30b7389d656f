use Rattle.pack_jobs.proofs.CheckLemmas.{bad_refused, cut_refused, good_closed, on_past}
use Rattle.pack_jobs.proofs.laws.check_names_the_first_fault.Goals as goal

pub returns-clause-bad : goal.returns-clause-bad
returns-clause-bad c = bad_refused

pub returns-clause-cut : goal.returns-clause-cut
returns-clause-cut c = cut_refused

pub returns-clause-closed : goal.returns-clause-closed
returns-clause-closed c = good_closed

pub returns-clause-past : goal.returns-clause-past
returns-clause-past c = on_past
