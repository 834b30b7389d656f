use Rattle.std.proofs.Common.{◌-◌, length}
use Rattle.opus_feed.specs.Taking.{TakesOn}
use Rattle.opus_feed.proofs.head.Head.take_run.Given as goal

abbrev pub decreases-run : goal.decreases-run
decreases-run l = length l.piece - l.taken.used

abbrev pub invariant-run : goal.invariant-run
invariant-run l = TakesOn l.framing l.piece l.initial.self l.initial.taken l.self l.taken
