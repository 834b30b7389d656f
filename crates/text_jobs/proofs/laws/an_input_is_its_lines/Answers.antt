use Rattle.text_jobs.proofs.AgainLemmas.{has_lines, lines_joined}
use Rattle.text_jobs.proofs.laws.an_input_is_its_lines.Goals as goal

pub returns-clause-some : goal.returns-clause-some
returns-clause-some c = has_lines

pub returns-clause-joined : goal.returns-clause-joined
returns-clause-joined c = lines_joined
