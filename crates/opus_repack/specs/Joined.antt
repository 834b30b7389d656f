-- Two values in one packet (RFC 6716, 3): one TOC byte says the configuration and the channels of all frames.
use Rattle.std.specs.Prelude.{◌≡◌, ◌+◌, ◌≤◌, ◌++◌}
use Rattle.opus_packet.specs.Value.{PacketValue, duration_of, max_duration}

-- both have one configuration and the same channels (3.1)
pub record IsSameKind (v w : PacketValue) : Type 0 where
  pub config : v.config ≡ w.config
  pub stereo : v.stereo ≡ w.stereo

-- they have one kind, and their frames last at most 120 ms together (3.2.5)
pub record CanJoin (v w : PacketValue) : Type 0 where
  pub kind : IsSameKind v w
  pub lasts : duration_of v + duration_of w ≤ max_duration

-- the frames of both, one after another
abbrev pub joined : PacketValue → PacketValue → PacketValue
joined v w = record { config = v.config; stereo = v.stereo; frames = v.frames ++ w.frames }
