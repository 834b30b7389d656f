use Rattle.rtp_ends.proofs.AscendLemmas.{ordered-ascends}
use Rattle.rtp_ends.proofs.FirstLemmas.{first_at-ordered}
use Rattle.rtp_ends.proofs.laws.the_first_arrival_of_each_number_is_in_order.Goals as goal

pub returns-clause-ascends : goal.returns-clause-ascends
returns-clause-ascends c = ordered-ascends

pub returns-clause-first : goal.returns-clause-first
returns-clause-first c = λ arrivals place. first_at-ordered place arrivals
