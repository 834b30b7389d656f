-- Two texts that are written one behind the other.
use Rattle.std.proofs.Common.{ℕ, List, ◌++◌, Option, Result, Ok, Err, OnErr}
use Rattle.std.specs.Io.KnownBytes.{Appends}
use Rattle.job_loop.specs.Telling.{Front}
use Rattle.job_loop.proofs.RunLemmas.{Front-behind, Front-longer}

-- a stop within the first of two texts
pub first_front : {T E : Type 0} → (result : Result T E) (text more : List ℕ) (old new : Option (List ℕ))
    → Front text old new → OnErr result (Front (text ++ more) old new)
first_front (Ok done) text more old new front = tt
first_front (Err stop) text more old new front = Front-longer text more old new front

-- a stop within the second one
pub second_front : {T E : Type 0} → (result : Result T E) (text more : List ℕ) (old mid new : Option (List ℕ))
    → Appends old mid text → OnErr result (Front more mid new) → OnErr result (Front (text ++ more) old new)
second_front (Ok done) text more old mid new first front = tt
second_front (Err stop) text more old mid new first front = Front-behind text more old mid new first front
