-- What a repacketizer has collected: no frames, or a value; and which packets go behind it. The limits are the
-- standard's (RFC 6716, 3.1 and 3.2.5), the choice of the cause is this project's.
use Rattle.std.specs.Prelude.{ℕ, ◌+◌, ◌<◌, List, [], Option, Some, None}
use Rattle.opus_packet.specs.Value.{PacketValue, duration_of, max_duration}
use Rattle.opus_repack.specs.Joined.{IsSameKind, CanJoin, joined}

-- the frames so far
abbrev pub frames_in : Option PacketValue → List (List ℕ)
frames_in None = []
frames_in (Some v) = v.frames

-- samples at 48 kHz of the frames so far
abbrev pub duration_in : Option PacketValue → ℕ
duration_in None = 0
duration_in (Some v) = duration_of v

-- the value with another one's frames behind the frames so far
abbrev pub with_frames : Option PacketValue → PacketValue → PacketValue
with_frames None w = w
with_frames (Some v) w = joined v w

-- there are no frames yet, or the frames can be joined with those so far
abbrev pub GoesBehind : Option PacketValue → PacketValue → Type 0
GoesBehind None w = Unit {0}
GoesBehind (Some v) w = CanJoin v w

-- there are frames already, and they have another configuration or other channels
abbrev pub IsMixed : Option PacketValue → PacketValue → Type 0
IsMixed None w = ⊥
IsMixed (Some v) w = IsSameKind v w → ⊥

-- the kinds agree, and all frames together last more than 120 ms
abbrev pub IsTooLong : Option PacketValue → PacketValue → Type 0
IsTooLong None w = ⊥
IsTooLong (Some v) w = IsSameKind v w × (max_duration < duration_of v + duration_of w)
