use Rattle.opus_self.proofs.SelfPrefixLemmas.{ends, begins_once}
use Rattle.opus_self.proofs.laws.a_packet_is_no_front_of_another.Goals as goal

pub returns-clause-ends : goal.returns-clause-ends
returns-clause-ends c = ends

pub returns-clause-one : goal.returns-clause-one
returns-clause-one c = begins_once
