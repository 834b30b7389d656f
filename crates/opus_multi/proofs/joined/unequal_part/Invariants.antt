use Rattle.std.proofs.Common.{take}
use Rattle.opus_multi.specs.Told.{Told}
use Rattle.opus_multi.specs.Joins.{held_durations}
use Rattle.opus_multi.proofs.joined.unequal_part.Given as goal

abbrev pub invariant-loop-k : goal.invariant-loop-k
invariant-loop-k l = Told l.durations (held_durations (take l.k l.parts))
