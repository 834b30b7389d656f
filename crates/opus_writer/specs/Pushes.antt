-- Appending to an array of bounded room.
use Rattle.std.specs.Prelude.{◌≡◌, ℕ, ◌+◌, ◌≤◌, List, ◌++◌, length}

-- these bytes were appended, which are so many at the most
pub record Pushes (old new more : List ℕ) (room : ℕ) : Type 0 where
  pub bytes : new ≡ old ++ more
  pub most : length new ≤ length old + room
