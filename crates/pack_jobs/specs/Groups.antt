-- How records fall into groups of packets: at each lost record, and behind every so many packets, where there is a
-- bound. And what merge makes of the groups.
use Rattle.std.specs.Prelude.{◌≡◌, ℕ, ◌≤◌, List, [], ◌∷◌, length, flat_map, Option, Some, None, IfSome}
use Rattle.std.specs.List.{AllByRecursion}
use Rattle.job_loop.specs.Shown.{Shown}
use Rattle.opus_packet.specs.Value.{PacketValue, duration_of, max_duration}
use Rattle.opus_repack.specs.Joined.{IsSameKind}
use Rattle.opus_repack.specs.Collected.{frames_in}
use Rattle.opus_words.specs.declared.form.Form.{Form}
use Rattle.pack_records.specs.declared.item.Found.{Found}
use Rattle.pack_records.specs.declared.item.Found.TheVariants.{Packet, Lost, Bad}
use Rattle.pack_records.specs.declared.item.Item.{Item}
use Rattle.pack_records.specs.Fits.{ItemFits}
use Rattle.pack_records.specs.Lent.{lent_value}
use Rattle.pack_jobs.specs.Records.{record_bytes}
use Rattle.pack_jobs.specs.Merge.{value_text}

-- packets that go together, or a lost record
pub data Part : Type 0 where
  packets : List (Shown Item) → Part
  lost : Shown Item → Part

abbrev pub records_of : Part → List (Shown Item)
records_of (packets rs) = rs
records_of (lost r) = r ∷ []

abbrev pub IsPacket : Found → Type 0
IsPacket (Packet framing shape size) = Unit {0}
IsPacket Lost = ⊥
IsPacket (Bad fault) = ⊥

abbrev pub IsLost : Found → Type 0
IsLost (Packet framing shape size) = ⊥
IsLost Lost = Unit {0}
IsLost (Bad fault) = ⊥

-- packets, one at least, and no more than the bound
pub record IsGroup (most : Option ℕ) (rs : List (Shown Item)) : Type 0 where
  pub each : AllByRecursion (λ r. IsPacket r.item.found) rs
  pub some : 1 ≤ length rs
  pub within : IfSome most (λ n. length rs ≤ n)

-- only a group that has all packets that it may have stands before another one
abbrev pub IsClosedBy : Option ℕ → ℕ → List Part → Type 0
IsClosedBy most count [] = Unit {0}
IsClosedBy most count (lost r ∷ parts) = Unit {0}
IsClosedBy most count (packets rs ∷ parts) = most ≡ Some count

abbrev pub AreGroups : Option ℕ → List Part → Type 0
AreGroups most [] = Unit {0}
AreGroups most (lost r ∷ parts) = IsLost r.item.found × AreGroups most parts
AreGroups most (packets rs ∷ parts) = IsGroup most rs × IsClosedBy most (length rs) parts × AreGroups most parts

-- the parts are all of the records, in order
pub record IsCutInto (most : Option ℕ) (rs : List (Shown Item)) (parts : List Part) : Type 0 where
  pub all : rs ≡ flat_map records_of parts
  pub groups : AreGroups most parts

-- ---- values

abbrev pub listed : Option PacketValue → List PacketValue
listed None = []
listed (Some v) = v ∷ []

-- the value of a packet, if the record holds one
abbrev pub packet_in : Found → List ℕ → List PacketValue
packet_in (Packet framing shape size) bytes = listed (lent_value framing bytes)
packet_in Lost bytes = []
packet_in (Bad fault) bytes = []

abbrev pub values_of : List (Shown Item) → List PacketValue
values_of rs = flat_map (λ r. packet_in r.item.found r.bytes) rs

abbrev pub frames_of : List PacketValue → List (List ℕ)
frames_of vs = flat_map (λ v. v.frames) vs

-- the frames of all packets in one, of the first one's kind
abbrev pub merged_with : PacketValue → List PacketValue → PacketValue
merged_with v vs = record { config = v.config; stereo = v.stereo; frames = frames_of (v ∷ vs) }

abbrev pub merged : List PacketValue → Option PacketValue
merged [] = None
merged (v ∷ vs) = Some (merged_with v vs)

-- they have one kind (RFC 6716, 3.1), and last at most 120 ms together (3.2.5)
abbrev pub CanMerge : List PacketValue → Type 0
CanMerge [] = Unit {0}
CanMerge (v ∷ vs) = AllByRecursion (IsSameKind v) vs × (duration_of (merged_with v vs) ≤ max_duration)

-- the packets of each group can be one packet
abbrev pub CanPartMerge : Part → Type 0
CanPartMerge (packets rs) = CanMerge (values_of rs)
CanPartMerge (lost r) = Unit {0}

abbrev pub CanAllMerge : List Part → Type 0
CanAllMerge parts = AllByRecursion CanPartMerge parts

-- ---- what is written

abbrev pub last_range : List (Shown Item) → ℕ
last_range [] = 0
last_range (r ∷ []) = r.item.range
last_range (r ∷ s ∷ rs) = last_range (s ∷ rs)

-- a group's packet, with the range of the last record; or the lost record as it was
abbrev pub part_text : Form → Part → List ℕ
part_text form (packets rs) = value_text form (last_range rs) (merged (values_of rs))
part_text form (lost r) = record_bytes form r.item.range []

abbrev pub texts_of : Form → List Part → List ℕ
texts_of form parts = flat_map (part_text form) parts

-- the frames of what is written
abbrev pub part_frames : Part → List (List ℕ)
part_frames (packets rs) = frames_in (merged (values_of rs))
part_frames (lost r) = []

-- records as they are handed to a job: the bytes that are lent of a packet spell it
abbrev pub AreLent : List (Shown Item) → Type 0
AreLent rs = AllByRecursion (λ r. ItemFits r.item r.bytes) rs
