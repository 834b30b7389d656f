use Rattle.rtp_ends.proofs.FrontLemmas.{certain-front, certain-stays}
use Rattle.rtp_ends.proofs.laws.what_is_certain_stays.Goals as goal

pub returns-clause-front : goal.returns-clause-front
returns-clause-front c = certain-stays

pub returns-clause-settled : goal.returns-clause-settled
returns-clause-settled c = certain-front
