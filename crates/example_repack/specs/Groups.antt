-- What becomes of a packet behind a group of packets that were joined: this project's own.
use Rattle.std.specs.Prelude.{◌≡◌, ℕ, ◌+◌, ◌≤◌, List, [], ◌++◌, Option, Some, None}
use Rattle.opus_packet.specs.Value.{PacketValue, duration_of}
use Rattle.opus_packet.specs.Canonical.{canonical_self_delimited}
use Rattle.opus_repack.specs.Collected.{frames_in, duration_in, with_frames, GoesBehind}

-- samples at 48 kHz of joined packets, at most: 60 ms
abbrev pub most_samples : ℕ
most_samples = 2880

-- the packet goes behind the group: they can be joined, and last at most 60 ms together
pub record Goes (group : Option PacketValue) (v : PacketValue) : Type 0 where
  pub behind : GoesBehind group v
  pub lasts : duration_in group + duration_of v ≤ most_samples

-- what is written of a group: one self-delimited packet in canonical form, or nothing
abbrev pub group_text : Option PacketValue → List ℕ
group_text None = []
group_text (Some v) = canonical_self_delimited v

-- what was written has some group's frames, and with those of the group that is kept they are all, in order
pub record KeepsFrames (old : Option PacketValue) (v : PacketValue) (new : Option PacketValue) (before after : List ℕ)
    : Type 0 where
  pub gone : Option PacketValue
  pub written : after ≡ before ++ group_text gone
  pub frames : frames_in gone ++ frames_in new ≡ frames_in old ++ v.frames

-- A packet that goes behind the group is joined, and nothing is written. Any other begins a group, and the group before it
-- is written. No frame is lost.
pub record Repacks (old : Option PacketValue) (v : PacketValue) (new : Option PacketValue) (before after : List ℕ)
    : Type 0 where
  pub joined : Goes old v → (new ≡ Some (with_frames old v)) × (after ≡ before)
  pub begun : (Goes old v → ⊥) → (new ≡ Some v) × (after ≡ before ++ group_text old)
  pub kept : KeepsFrames old v new before after
