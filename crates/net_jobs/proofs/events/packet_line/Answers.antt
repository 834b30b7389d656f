use Rattle.std.proofs.Common.{rules}
use Rattle.net_jobs.specs.Tell.{packet_line}
use Rattle.net_jobs.proofs.events.packet_line.Goals as goal

pub returns : goal.returns
unfolding packet_line
returns c = search rules
