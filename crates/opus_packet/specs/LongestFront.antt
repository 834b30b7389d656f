-- The longest front of some bytes that becomes a packet.
use Rattle.std.specs.Prelude.{ℕ, ◌<◌, ◌≤◌, List, length, take}
use Rattle.opus_packet.specs.PacketPrefix.{BecomesPacket}

-- it has so many bytes
pub record IsLongestFront (bytes : List ℕ) (place : ℕ) : Type 0 where
  pub within : place ≤ length bytes
  pub becomes : BecomesPacket (take place bytes)
  pub longest : (n : ℕ) → place < n → n ≤ length bytes → BecomesPacket (take n bytes) → ⊥
