-- The longest front of some bytes that can become a self-delimited packet.
use Rattle.std.specs.Prelude.{ℕ, ◌<◌, ◌≤◌, List, length, take}
use Rattle.opus_packet.specs.SelfPrefix.{IsSelfDelimitedPrefix}

-- it has so many bytes
pub record IsLongestSelfPrefix (bytes : List ℕ) (place : ℕ) : Type 0 where
  pub within : place ≤ length bytes
  pub is_prefix : IsSelfDelimitedPrefix (take place bytes)
  pub longest : (n : ℕ) → place < n → n ≤ length bytes → IsSelfDelimitedPrefix (take n bytes) → ⊥
