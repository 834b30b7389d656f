use Rattle.std.proofs.Common.{◌≡◌, length}
use Rattle.opus_sdp.specs.Printed.{numbers_of, params_after}
use Rattle.opus_sdp.specs.Writing.{Counts}
use Rattle.opus_sdp.proofs.WriteLemmas.{rows_before}
use Rattle.opus_sdp.proofs.size.known_size.Given as goal

abbrev pub invariant-loop-row : goal.invariant-loop-row
invariant-loop-row l = (l.number-items ≡ numbers_of l.fmtp)
    × Counts l.size (length (params_after 32 (rows_before l.row l.number-items)))
