use Rattle.std.proofs.Common.{◌-◌, length}
use Rattle.opus_multi.specs.MultiTurns.{SoFar}
use Rattle.opus_multi.proofs.multi_feed.MultiFeed.take.Given as goal

abbrev pub invariant-loop-used : goal.invariant-loop-used
invariant-loop-used l = SoFar l.fn.self l.self l.piece l.rest

abbrev pub decreases-loop-used : goal.decreases-loop-used
decreases-loop-used l = l.fn.self.streams - length l.self.parts.items
