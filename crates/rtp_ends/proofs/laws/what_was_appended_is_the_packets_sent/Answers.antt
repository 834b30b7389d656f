use Rattle.std.proofs.Common.{[]}
use Rattle.rtp_ends.proofs.SentLemmas.{packets_sent-more, appended-joined}
use Rattle.rtp_ends.proofs.laws.what_was_appended_is_the_packets_sent.Goals as goal

pub returns-clause-more : goal.returns-clause-more
returns-clause-more c = packets_sent-more

pub returns-clause-joined : goal.returns-clause-joined
returns-clause-joined c = λ first records texts said. appended-joined first [] records texts said
