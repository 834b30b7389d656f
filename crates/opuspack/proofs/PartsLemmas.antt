-- A text of three parts, written one after another.
use Rattle.std.proofs.Common.{ℕ, ◌≤◌, List, ◌++◌, Option, length, take, Result, Ok, Err, OnOk, OnErr}
use Rattle.std.specs.Io.KnownBytes.{Appends}
use Rattle.std.proofs.KnownBytes.{Appends-trans}
use Rattle.job_loop.specs.Telling.{Front}
use Rattle.job_loop.proofs.RunLemmas.{Front-behind, Front-longer}

-- so many bytes of a part were written
pub piece_front : (x : List ℕ) (a b : Option (List ℕ)) → (k : ℕ) × (k ≤ length x) × Appends a b (take k x) → Front x a b
piece_front x a b piece = record { count = piece.0; written = piece.2 }

pub piece_front_if : {T E : Type 0} → (result : Result T E) (x : List ℕ) (a b : Option (List ℕ))
    → OnErr result ((k : ℕ) × (k ≤ length x) × Appends a b (take k x)) → OnErr result (Front x a b)
piece_front_if (Ok done) x a b piece = tt
piece_front_if (Err stop) x a b piece = piece_front x a b piece

module _ (x y z : List ℕ) (a b c d : Option (List ℕ)) where
  pub first_front : Front x a b → Front (x ++ y ++ z) a b
  first_front front = Front-longer (x ++ y) z a b (Front-longer x y a b front)

  pub second_front : Appends a b x → Front y b c → Front (x ++ y ++ z) a c
  second_front first front = Front-longer (x ++ y) z a c (Front-behind x y a b c first front)

  pub third_front : {T E : Type 0} → (result : Result T E) → Appends a b x → Appends b c y → OnErr result (Front z c d)
      → OnErr result (Front (x ++ y ++ z) a d)
  third_front (Ok done) first second front = tt
  third_front (Err stop) first second front = Front-behind (x ++ y) z a c d (Appends-trans a b c x y first second) front

  pub all_three_if : {T E : Type 0} → (result : Result T E) → Appends a b x → Appends b c y → OnOk result (Appends c d z)
      → OnOk result (Appends a d (x ++ y ++ z))
  all_three_if (Ok done) first second third = Appends-trans a c d (x ++ y) z (Appends-trans a b c x y first second) third
  all_three_if (Err stop) first second third = tt
