-- What a read does to a source's count of faults.
use Rattle.std.specs.Prelude.{◌≡◌, ℕ, ◌≤◌, Result, OnOk, OnErr}
use Rattle.opus_io.specs.Cause.{Rose}

-- the count never falls, stays at Ok, and rose where the read failed
pub record SourceCause {T E : Type 0} (before now : ℕ) (result : Result T E) : Type 0 where
  pub later : before ≤ now
  pub still : OnOk result (now ≡ before)
  pub failed : OnErr result (Rose before now)
