use Rattle.std.proofs.Common.{◌≡◌, replicate}
use Rattle.opus_make.proofs.written.padding.Given as goal

abbrev pub invariant-loop : goal.invariant-loop
invariant-loop l = l.zeros.items ≡ replicate l.counter 0
