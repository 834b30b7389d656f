use Rattle.std.proofs.Common.{◌≤◌, vec_capacity}
use Rattle.opus_make.proofs.FrameLemmas.{FramesSoFar}
use Rattle.opus_make.proofs.written.append_frames.Given as goal

abbrev pub invariant-loop-number : goal.invariant-loop-number
invariant-loop-number l = record {
  appended : FramesSoFar l.lengths l.initial.out.items l.number l.out.items;
  capacity : vec_capacity l.initial.out ≤ vec_capacity l.out;
}
