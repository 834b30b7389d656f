use Rattle.pack_jobs.proofs.CheckLemmas.{all_lines, good_lines, stop_outcome}
use Rattle.pack_jobs.proofs.laws.check_writes_a_line_for_each_record.Goals as goal

pub returns-clause-all : goal.returns-clause-all
returns-clause-all c = all_lines

pub returns-clause-good : goal.returns-clause-good
returns-clause-good c = good_lines

pub returns-clause-self_delimited : goal.returns-clause-self_delimited
returns-clause-self_delimited c = stop_outcome
