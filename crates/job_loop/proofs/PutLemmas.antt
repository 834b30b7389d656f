-- A stop in the second of two pieces.
use Rattle.std.proofs.Common.{ℕ, ◌≤◌, List, ◌++◌, Option, take, length, Result, Ok, Err, OnErr}
use Rattle.std.specs.Io.KnownBytes.{Appends}
use Rattle.job_loop.specs.Telling.{Front}
use Rattle.job_loop.proofs.RunLemmas.{Front-behind}

pub front_of : {T E : Type 0} → (first second : List ℕ) (a b c : Option (List ℕ)) (result : Result T E)
    → Appends a b first → OnErr result ((n : ℕ) × (n ≤ length second) × Appends b c (take n second))
    → OnErr result (Front (first ++ second) a c)
front_of first second a b c (Ok done) all front = tt
front_of first second a b c (Err stop) all front =
    Front-behind first second a b c all (record { count = front.0; written = front.2 })
