-- A record as a job sees it.
use Rattle.std.specs.Prelude.{ℕ, List}

-- what was found out about the record, and its bytes where they lie
pub record Shown (N : Type 0) : Type 0 where
  pub item : N
  pub bytes : List ℕ
