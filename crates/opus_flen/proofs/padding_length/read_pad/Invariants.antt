use Rattle.std.proofs.Common.{ℕ, ◌≤◌, List}
use Rattle.opus_flen.specs.PaddingLength.{full_bytes}
use Rattle.opus_flen.proofs.padding_length.read_pad.Given as goal

-- all bytes before the place are 255, and no more of them than the limit allows
pub record Passed (place : ℕ) (bytes : List ℕ) : Type 0 where
  pub full : place ≤ full_bytes bytes
  pub within : place ≤ 65792

abbrev pub invariant-loop-place : goal.invariant-loop-place
invariant-loop-place l = Passed l.place l.bytes
