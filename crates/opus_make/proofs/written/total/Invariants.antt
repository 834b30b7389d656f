use Rattle.opus_make.proofs.FrameLemmas.{Counted}
use Rattle.opus_make.proofs.written.total.Given as goal

abbrev pub invariant-loop-length : goal.invariant-loop-length
invariant-loop-length l = Counted l.lengths l.length-index l.total
