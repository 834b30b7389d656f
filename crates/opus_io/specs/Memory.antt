-- A source and a sink in memory, as values. Calls are counted from 1, and the counts stop at 2^64 - 1.
use Rattle.std.specs.Prelude.{ℕ, List}

-- the bytes left, the most that a read gives, the calls that fail, and the calls and faults so far
pub record SourceState : Type 0 where
  pub left : List ℕ
  pub step : ℕ
  pub fails : List ℕ
  pub calls : ℕ
  pub faults : ℕ

-- the bytes written, the most that a write takes, the calls that fail, and the counts so far
pub record SinkState : Type 0 where
  pub bytes : List ℕ
  pub step : ℕ
  pub fails : List ℕ
  pub calls : ℕ
  pub faults : ℕ
  pub refusals : ℕ
