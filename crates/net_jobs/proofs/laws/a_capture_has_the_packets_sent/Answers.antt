use Rattle.std.proofs.Common.{[]}
use Rattle.net_jobs.proofs.PacketsLemmas.{captured_behind-packets, captured_behind-fits}
use Rattle.net_jobs.proofs.laws.a_capture_has_the_packets_sent.Goals as goal

pub returns-clause-packets : goal.returns-clause-packets
returns-clause-packets c = λ first records. captured_behind-packets first [] records

pub returns-clause-fits : goal.returns-clause-fits
returns-clause-fits c = λ first records are. captured_behind-fits first [] records are
