use Rattle.std.proofs.Common.{rules}
use Rattle.net_jobs.specs.Tell.{gap_line}
use Rattle.net_jobs.proofs.events.gap_line.Goals as goal

pub returns : goal.returns
unfolding gap_line
returns c = search rules
