use Rattle.opus_sdp.proofs.LawLemmas.{one_thing}
use Rattle.opus_sdp.proofs.laws.a_line_says_one_thing.Goals as goal

pub returns : goal.returns
returns c = record { same = one_thing }
