use Rattle.opus_multi.proofs.PrefixLemmas.{prefix-becomes, becomes-prefix}
use Rattle.opus_multi.proofs.laws.a_prefix_is_what_can_become_streams.Goals as goal

pub returns-clause-becomes : goal.returns-clause-becomes
returns-clause-becomes c = prefix-becomes

pub returns-clause-only : goal.returns-clause-only
returns-clause-only c = becomes-prefix
