use Rattle.opus_sdp.proofs.LawLemmas.{is_value, printed}
use Rattle.opus_sdp.proofs.laws.a_printed_line_says_the_same.Goals as goal

pub returns-clause-value : goal.returns-clause-value
returns-clause-value c = is_value

pub returns-clause-read : goal.returns-clause-read
returns-clause-read c = printed

pub returns-clause-again : goal.returns-clause-again
returns-clause-again c = λ a line is. printed a (is_value a line is)
