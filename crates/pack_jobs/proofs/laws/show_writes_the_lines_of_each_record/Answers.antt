use Rattle.pack_jobs.proofs.ShowLemmas.{show_written, show_refused, show_cut}
use Rattle.pack_jobs.proofs.laws.show_writes_the_lines_of_each_record.Goals as goal

pub returns-clause-written : goal.returns-clause-written
returns-clause-written c = show_written

pub returns-clause-refused : goal.returns-clause-refused
returns-clause-refused c = show_refused

pub returns-clause-cut : goal.returns-clause-cut
returns-clause-cut c = show_cut
