use Rattle.opus_head.proofs.ReadingLemmas.{spelled-unique}
use Rattle.opus_head.proofs.laws.bytes_are_one_head.Goals as goal

pub returns : goal.returns
returns c = record { same = spelled-unique }
