-- Writing several pieces to a sink.
use Rattle.std.specs.Prelude.{ℕ, ◌≤◌, List, length, take, Result, OnOk, OnErr}
use Rattle.std.specs.declared.option.Option.{Option}
use Rattle.std.specs.Io.KnownBytes.{Appends}

-- all bytes were appended; or after a stop a front of them
pub record Puts {E : Type 0} (old new : Option (List ℕ)) (bytes : List ℕ) (result : Result (Unit {0}) E) : Type 0 where
  pub ok : OnOk result (Appends old new bytes)
  pub front : OnErr result ((n : ℕ) × (n ≤ length bytes) × Appends old new (take n bytes))
