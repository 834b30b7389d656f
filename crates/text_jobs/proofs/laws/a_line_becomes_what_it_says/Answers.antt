use Rattle.text_jobs.proofs.SdpLemmas.{step_printed, step_blank, step_refused}
use Rattle.text_jobs.proofs.laws.a_line_becomes_what_it_says.Goals as goal

pub returns-clause-printed : goal.returns-clause-printed
returns-clause-printed c = step_printed

pub returns-clause-blank : goal.returns-clause-blank
returns-clause-blank c = step_blank

pub returns-clause-refused : goal.returns-clause-refused
returns-clause-refused c = step_refused
