-- What many packets become, one call after the other.
use Rattle.std.specs.Prelude.{◌≡◌, ℕ, List, [], ◌∷◌, ◌++◌, flat_map, Option}
use Rattle.opus_packet.specs.Value.{PacketValue}
use Rattle.opus_packet.specs.Canonical.{canonical_self_delimited}
use Rattle.opus_repack.specs.Collected.{frames_in}
use Rattle.example_repack.specs.Groups.{Repacks}

-- the packets were taken behind this group and these bytes, and left that group and those bytes
abbrev pub Runs : List PacketValue → Option PacketValue → List ℕ → Option PacketValue → List ℕ → Type 0
Runs [] group before end after = (end ≡ group) × (after ≡ before)
Runs (v ∷ vs) group before end after =
    (next : Option PacketValue) × (text : List ℕ) × Repacks group v next before text × Runs vs next text end after

-- what was written is packets, and their frames and those of the group that is left are all, in order
pub record KeepsAll
    (vs : List PacketValue) (group : Option PacketValue) (before : List ℕ) (end : Option PacketValue) (after : List ℕ)
    : Type 0 where
  pub packets : List PacketValue
  pub written : after ≡ before ++ flat_map canonical_self_delimited packets
  pub frames : frames_in group ++ flat_map (λ v. v.frames) vs ≡ flat_map (λ v. v.frames) packets ++ frames_in end
