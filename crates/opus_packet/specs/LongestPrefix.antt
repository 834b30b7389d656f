-- The longest front of some bytes that can become a packet.
use Rattle.std.specs.Prelude.{ℕ, ◌<◌, ◌≤◌, List, length, take}
use Rattle.opus_packet.specs.PacketPrefix.{IsPacketPrefix}

-- it has so many bytes
pub record IsLongestPrefix (bytes : List ℕ) (place : ℕ) : Type 0 where
  pub within : place ≤ length bytes
  pub is_prefix : IsPacketPrefix (take place bytes)
  pub longest : (n : ℕ) → place < n → n ≤ length bytes → IsPacketPrefix (take n bytes) → ⊥
