-- What a `Held` keeps, and what it stands for.
use Rattle.std.specs.Prelude.{◌≡◌, ℕ, ◌≤◌, List, length, take, drop, sum, All}
use Rattle.opus_packet.specs.declared.held.Held.TheInside.{Inside}
use Rattle.opus_packet.specs.Value.{PacketValue, IsPacketValue, max_frame}
use Rattle.opus_packet.specs.Tail.{max_tail}
use Rattle.opus_packet.specs.Cut.{cut}

-- a value, and padding bytes that were kept with it
pub record HeldRead : Type 0 where
  pub value : PacketValue
  pub tail : List ℕ

abbrev pub held_inside : Inside → HeldRead
held_inside h = record {
  value = record {
    config = h.config;
    stereo = h.stereo;
    frames = cut (take h.body h.bytes.items) h.lens.items;
  };
  tail = drop h.body h.bytes.items;
}

pub record IsHeld (h : Inside) : Type 0 where
  pub value : IsPacketValue (held_inside h).value
  pub fills : sum h.lens.items ≡ h.body
  pub within : h.body ≤ length h.bytes.items
  pub tail : length (held_inside h).tail ≤ max_tail
  pub each : All (λ n. n ≤ max_frame) h.lens.items
