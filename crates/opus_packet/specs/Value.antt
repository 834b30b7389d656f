-- What a packet means, apart from how it is spelled (RFC 6716, 3.2.5).
use Rattle.std.specs.Prelude.{ℕ, ◌*◌, ◌<◌, ◌≤◌, Bool, List, length}
use Rattle.std.specs.List.{AllByRecursion}
use Rattle.opus_toc.specs.Configuration.{samples_of}

-- a configuration, mono or stereo, and the frames' bytes in order
pub record PacketValue : Type 0 where
  pub config : ℕ
  pub stereo : Bool
  pub frames : List (List ℕ)

-- samples at 48 kHz of all frames
abbrev pub duration_of : PacketValue → ℕ
duration_of v = length v.frames * samples_of v.config

-- a frame has at most 1,275 bytes
abbrev pub max_frame : ℕ
max_frame = 1275

-- a packet lasts at most 120 ms, which are 5,760 samples
abbrev pub max_duration : ℕ
max_duration = 5760

-- most bytes of all frames: 48 of the longest
abbrev pub max_body : ℕ
max_body = 61200

-- the bytes can be a frame
abbrev pub IsFrame : List ℕ → Type 0
IsFrame frame = length frame ≤ max_frame

-- what can be sent as one packet: 1 to 48 frames, which last at most 120 ms together
pub record IsPacketValue (v : PacketValue) : Type 0 where
  pub config : v.config < 32
  pub some : 1 ≤ length v.frames
  pub most : length v.frames ≤ 48
  pub each : AllByRecursion IsFrame v.frames
  pub duration : duration_of v ≤ max_duration
