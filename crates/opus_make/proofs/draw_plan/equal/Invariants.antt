use Rattle.std.proofs.Common.{◌≡◌, replicate}
use Rattle.opus_make.proofs.draw_plan.equal.Given as goal

abbrev pub invariant-loop : goal.invariant-loop
invariant-loop l = l.lengths.items ≡ replicate l.counter l.length
