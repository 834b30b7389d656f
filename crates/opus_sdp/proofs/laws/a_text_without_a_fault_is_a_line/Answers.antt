use Rattle.opus_sdp.proofs.LawLemmas.{is_some_line, no_fault, one_line}
use Rattle.opus_sdp.proofs.laws.a_text_without_a_fault_is_a_line.Goals as goal

pub returns-clause-line : goal.returns-clause-line
returns-clause-line c = is_some_line

pub returns-clause-none : goal.returns-clause-none
returns-clause-none c = no_fault

pub returns-clause-one_line : goal.returns-clause-one_line
returns-clause-one_line c = one_line
