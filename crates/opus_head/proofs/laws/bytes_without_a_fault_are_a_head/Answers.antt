use Rattle.opus_head.specs.HeadRead.{head_in}
use Rattle.opus_head.proofs.NoFaultLemmas.{NoFault-none}
use Rattle.opus_head.proofs.SpelledLemmas.{head_in-spelled}
use Rattle.opus_head.proofs.ReadingLemmas.{spelled-passes}
use Rattle.opus_head.proofs.laws.bytes_without_a_fault_are_a_head.Goals as goal

pub returns-clause-head : goal.returns-clause-head
returns-clause-head c =
    λ bytes are none. (head_in bytes, head_in-spelled bytes (NoFault-none bytes none) are)

pub returns-clause-none : goal.returns-clause-none
returns-clause-none c = spelled-passes
