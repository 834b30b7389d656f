use Rattle.std.proofs.Common.{◌≤◌, subst}
use Rattle.opus_packet.specs.Value.{max_duration}
use Rattle.opus_repack.proofs.JoinedLemmas.{duration-joined, joined-value}
use Rattle.opus_repack.proofs.laws.joined_values_last_as_long_as_both.Goals as goal

pub returns-clause-duration : goal.returns-clause-duration
returns-clause-duration c = duration-joined

pub returns-clause-exactly : goal.returns-clause-exactly
returns-clause-exactly c v w first second same = (
  λ is. subst (λ n. n ≤ max_duration) (duration-joined v w same) is.duration,
  joined-value v w first second same,
)
