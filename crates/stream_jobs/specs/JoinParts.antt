-- What the job join takes of a record of a group.
use Rattle.std.specs.Prelude.{ℕ, Bool, if◌then◌else◌, List, [], Option, Some, None}
use Rattle.opus_packet.specs.Value.{PacketValue, duration_of}
use Rattle.opus_packet.specs.Canonical.{canonical, canonical_self_delimited}

-- the canonical form of a packet of a group, if there is one: self-delimited, but where it is the last
abbrev pub form_at : Bool → Option PacketValue → List ℕ
form_at last None = []
form_at last (Some v) = if last then canonical v else canonical_self_delimited v

-- samples at 48 kHz of the first packet of a group, and none where it is lost
abbrev pub samples_in : Option PacketValue → Option ℕ
samples_in None = None
samples_in (Some v) = Some (duration_of v)
