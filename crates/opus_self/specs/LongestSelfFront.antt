-- The longest front of some bytes that becomes a self-delimited packet.
use Rattle.std.specs.Prelude.{ℕ, ◌<◌, ◌≤◌, List, length, take}
use Rattle.opus_self.specs.BecomesSelf.{BecomesSelf}

-- it has so many bytes
pub record IsLongestSelfFront (bytes : List ℕ) (place : ℕ) : Type 0 where
  pub within : place ≤ length bytes
  pub becomes : BecomesSelf (take place bytes)
  pub longest : (n : ℕ) → place < n → n ≤ length bytes → BecomesSelf (take n bytes) → ⊥
