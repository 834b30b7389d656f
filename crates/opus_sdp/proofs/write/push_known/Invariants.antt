use Rattle.std.proofs.Common.{◌≡◌, ◌≤◌, ◌++◌, vec_capacity}
use Rattle.opus_sdp.specs.Printed.{numbers_of, params_after}
use Rattle.opus_sdp.specs.Writing.{separator_behind}
use Rattle.opus_sdp.proofs.WriteLemmas.{rows_before}
use Rattle.opus_sdp.proofs.write.push_known.Given as goal

abbrev pub invariant-loop-row : goal.invariant-loop-row
invariant-loop-row l = (l.number-items ≡ numbers_of l.fmtp)
    × (l.out.items ≡ l.fn.out.items ++ params_after 32 (rows_before l.row l.number-items))
    × (l.separator ≡ separator_behind 32 (rows_before l.row l.number-items))
    × (vec_capacity l.fn.out ≤ vec_capacity l.out)
