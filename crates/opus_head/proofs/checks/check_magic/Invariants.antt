use Rattle.opus_head.proofs.MagicLemmas.{SameSoFar}
use Rattle.opus_head.proofs.checks.check_magic.Given as goal

abbrev pub invariant-loop-place : goal.invariant-loop-place
invariant-loop-place l = SameSoFar l.bytes l.place
