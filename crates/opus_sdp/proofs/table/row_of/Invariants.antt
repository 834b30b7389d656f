use Rattle.std.proofs.Common.{◌≡◌, ◌<◌, ℕ, false}
use Rattle.opus_sdp.specs.Table.{row_at, same_name}
use Rattle.opus_sdp.proofs.table.row_of.Given as goal

abbrev pub invariant-loop-row : goal.invariant-loop-row
invariant-loop-row l = (k : ℕ) → k < l.row → same_name (row_at k).name l.name ≡ false
