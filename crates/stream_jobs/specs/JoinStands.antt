-- What the object of the job join stands for.
use Rattle.std.specs.Prelude.{◌≡◌, ℕ, List, [], ◌∷◌, length, flat_map, Option, None, vec_capacity}
use Rattle.job_loop.specs.Shown.{Shown}
use Rattle.job_loop.specs.Meaning.{Meaning}
use Rattle.opus_packet.specs.Value.{PacketValue}
use Rattle.opus_packet.specs.Canonical.{canonical_self_delimited}
use Rattle.pack_records.specs.declared.cut.Cut.{Cut}
use Rattle.pack_records.specs.declared.item.Item.{Item}
use Rattle.job_ends.specs.Refusal.{told}
use Rattle.stream_jobs.specs.declared.join.Join.{Join}
use Rattle.stream_jobs.specs.Refusal.{StreamRefusal}
use Rattle.stream_jobs.specs.JoinParts.{samples_in}
use Rattle.stream_jobs.specs.Join.{Part, JoinKept, join, values_of, ranges_of, packets_in, xor_of, differs_in}

-- the job with groups of as many records as the object's
abbrev pub join_job : Join → Meaning (Shown Item) JoinKept Cut StreamRefusal
join_job j = join j.streams

-- bytes of the object's own memory, where the packets of a group are gathered
abbrev pub group_room : Join → ℕ
group_room j = vec_capacity j.bytes

-- the first record of a group is lost, or has a packet that lasts so long
abbrev pub IsFirst : Option ℕ → List Part → Type 0
IsFirst first [] = Unit {0}
IsFirst first (p ∷ ps) = first ≡ samples_in p.value

-- the object's open group: the canonical self-delimited forms of its packets are gathered, for none of them is the last
pub record GroupStands (j : Join) (group : List Part) : Type 0 where
  pub taken : j.taken ≡ length group
  pub first : IsFirst j.first group
  -- where the first record is lost, all are
  pub lost : j.first ≡ None → packets_in (values_of group) ≡ []
  pub range : j.range ≡ xor_of (ranges_of group)
  pub bytes : j.bytes.items ≡ flat_map canonical_self_delimited (packets_in (values_of group))

-- a record that holds this doesn't differ from the first one of the object's open group
pub record Takes (j : Join) (group : List Part) (v : Option PacketValue) : Type 0 where
  pub stands : GroupStands j group
  pub same : differs_in group v ≡ None

pub record JoinStands (j : Join) (k : JoinKept) : Type 0 where
  pub count : j.count ≡ told k.count
  pub place : j.place ≡ k.place
  pub group : GroupStands j k.group
