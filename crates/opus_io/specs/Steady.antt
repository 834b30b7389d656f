-- A sink in memory, as a value.
use Rattle.std.specs.Prelude.{ℕ, List}

-- the bytes written, and how many writes found no memory
pub record Held : Type 0 where
  pub bytes : List ℕ
  pub refusals : ℕ
