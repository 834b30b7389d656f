use Rattle.rtp_ends.proofs.NumberLemmas.{IsPlaceAfter-one, place_after-is}
use Rattle.rtp_ends.proofs.laws.a_sequence_number_means_one_place.Goals as goal

pub returns-clause-is : goal.returns-clause-is
returns-clause-is c = place_after-is

pub returns-clause-only : goal.returns-clause-only
returns-clause-only c = IsPlaceAfter-one
