use Rattle.std.proofs.Common.{rules}
use Rattle.opuspack.specs.Totals.{totals_line}
use Rattle.opuspack.proofs.totals.Totals.line.Goals as goal

pub returns : goal.returns
unfolding totals_line
returns c = search rules
