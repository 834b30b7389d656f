use Rattle.std.proofs.Common.{refl}
use Rattle.opus_head.specs.HeadBytes.{head_bytes}
use Rattle.opus_head.proofs.ReadingLemmas.{spelled-unique}
use Rattle.opus_head.proofs.laws.what_is_written_is_read.Goals as goal

pub returns-clause-read : goal.returns-clause-read
returns-clause-read c = λ h is. record { value = is; spelled = refl }

pub returns-clause-only : goal.returns-clause-only
returns-clause-only c =
    λ g h is other. spelled-unique g h (head_bytes h) other (record { value = is; spelled = refl })
