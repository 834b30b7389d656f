use Rattle.opus_make.proofs.FrameLemmas.{Pushed}
use Rattle.opus_make.proofs.written.push_lengths.Given as goal

abbrev pub invariant-loop-length : goal.invariant-loop-length
invariant-loop-length l =
    Pushed l.initial.header.items l.lengths l.length-index l.header.items
