-- How many bytes are wanted of a record that is read in pieces.
use Rattle.std.specs.Prelude.{◌≡◌, ℕ, ◌^◌, ◌≤◌, ◌<◌, List, length, take}
use Rattle.std.specs.Int.{w16, to_be_bytes}

-- Of a record these bytes came, not all of it. The first two tell how many it has.
pub record Wants (want : ℕ) (came : List ℕ) : Type 0 where
  pub two : 2 ≤ length came
  pub long : 8 ≤ want
  pub fits : want < 2 ^ 16
  pub first : to_be_bytes w16 want ≡ take 2 came
  pub short : length came < want
