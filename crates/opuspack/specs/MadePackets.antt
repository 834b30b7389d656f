-- What the packets of a seed mean (RFC 6716, 3.2.5).
use Rattle.std.specs.Prelude.{ℕ, ◌+◌, if◌then◌else◌, List, [], ◌∷◌}
use Rattle.std.specs.declared.option.Option.{Option}
use Rattle.std.specs.Prelude.{Some, None}
use Rattle.opus_packet.specs.Value.{PacketValue}
use Rattle.opus_make.specs.Draws.{next_state}
use Rattle.opus_make.specs.Plan.{PlanValue, plan_at}
use Rattle.opus_make.specs.Written.{frame_bytes}
use Rattle.opus_make.specs.Generated.{is_lost_at, state_before}

-- frames of these lengths, the first one with number j
abbrev pub frames_with : ℕ → List ℕ → List (List ℕ)
frames_with j [] = []
frames_with j (size ∷ sizes) = frame_bytes j size ∷ frames_with (j + 1) sizes

-- a packet that was drawn
abbrev pub plan_packet : PlanValue → PacketValue
plan_packet plan = record {
  config = plan.config;
  stereo = plan.stereo;
  frames = frames_with 0 plan.lengths;
}

-- the packet drawn from this state on, or none where it is lost
abbrev pub packet_at : ℕ → Option PacketValue
packet_at state = if is_lost_at state then None else Some (plan_packet (plan_at (next_state state)))

-- the packet that record `number` of a seed is, counted from 0
unfoldable pub made_packet : ℕ → ℕ → Option PacketValue
made_packet seed number = packet_at (state_before seed number)
