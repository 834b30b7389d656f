use Rattle.std.proofs.Common.{rules}
use Rattle.net_jobs.specs.Tell.{counts_line}
use Rattle.net_jobs.proofs.counts.Counts.line.Goals as goal

pub returns : goal.returns
unfolding counts_line
returns c = search rules
