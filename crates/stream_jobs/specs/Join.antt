-- The job join: each so many records of a store as one record with the multistream packet of their packets.
use Rattle.std.specs.Prelude.{ℕ, ◌+◌, ◌==◌, nat_lt, if◌then◌else◌, List, [], ◌∷◌, ◌++◌, length, map, bit_xor, Option, Some, None, Result, Ok, Err}
use Rattle.job_loop.specs.Shown.{Shown}
use Rattle.job_loop.specs.Meaning.{Meaning, Step, goes, stops}
use Rattle.job_loop.specs.declared.input_end.InputEnd.{InputEnd}
use Rattle.job_loop.specs.declared.input_end.InputEnd.TheVariants as ends
use Rattle.opus_packet.specs.declared.fault.Fault.{Fault}
use Rattle.opus_packet.specs.Value.{PacketValue, duration_of}
use Rattle.opus_multi.specs.Forms.{canonical_multistream}
use Rattle.rec_store.specs.DemoStore.{demo_record}
use Rattle.pack_records.specs.declared.cut.Cut.{Cut}
use Rattle.pack_records.specs.declared.item.Found.{Found}
use Rattle.pack_records.specs.declared.item.Found.TheVariants.{Packet, Lost, Bad}
use Rattle.pack_records.specs.declared.item.Item.{Item}
use Rattle.pack_records.specs.Lent.{lent_value}
use Rattle.job_ends.specs.Refusal.{told, refusal_of}
use Rattle.stream_jobs.specs.declared.refusal.StreamWhy.{StreamWhy}
use Rattle.stream_jobs.specs.declared.refusal.StreamWhy.TheVariants.{Unequal, LostPart, ShortGroup, StoreCut}
use Rattle.stream_jobs.specs.Refusal.{refusal_at, StreamRefusal}

-- a record of a group: the value of its packet, or None where it is lost; and its range
pub record Part : Type 0 where
  pub value : Option PacketValue
  pub range : ℕ

abbrev pub part_of : Option PacketValue → ℕ → Part
part_of value range = record { value = value; range = range }

-- what a record holds: a packet of this value, or None where it is lost; or no packet, for this fault
abbrev pub held_in : Found → List ℕ → Result (Option PacketValue) Fault
held_in (Packet framing shape size) bytes = Ok (lent_value framing bytes)
held_in Lost bytes = Ok None
held_in (Bad fault) bytes = Err fault

-- what the records of a group hold, and their ranges
abbrev pub values_of : List Part → List (Option PacketValue)
values_of group = map (λ p. p.value) group

abbrev pub ranges_of : List Part → List ℕ
ranges_of group = map (λ p. p.range) group

-- ---- a full group

-- the packets that aren't lost
abbrev pub packets_in : List (Option PacketValue) → List PacketValue
packets_in [] = []
packets_in (Some v ∷ vs) = v ∷ packets_in vs
packets_in (None ∷ vs) = packets_in vs

-- the exclusive or of numbers, behind this one, and of all of them
abbrev pub xor_behind : ℕ → List ℕ → ℕ
xor_behind n [] = n
xor_behind n (m ∷ ms) = xor_behind (bit_xor n m) ms

abbrev pub xor_of : List ℕ → ℕ
xor_of ns = xor_behind 0 ns

-- One record: the multistream packet of the packets, in canonical form (RFC 7845, section 3), with the exclusive or of the
-- ranges. Lost records have no packets, and give a lost one.
unfoldable pub joined : List Part → List ℕ
joined group = demo_record (xor_of (ranges_of group)) (canonical_multistream (packets_in (values_of group)))

-- ---- which records go into a group

-- what a record holds differs from what the first one of its group holds, where `at` stand before it
abbrev pub differs : Option PacketValue → ℕ → Option PacketValue → Option StreamWhy
differs None at None = None
differs None at (Some w) = Some LostPart
differs (Some v) at None = Some LostPart
differs (Some v) at (Some w) = if duration_of w == duration_of v then None else Some (Unequal at)

abbrev pub differs_in : List Part → Option PacketValue → Option StreamWhy
differs_in [] w = None
differs_in (p ∷ ps) w = differs p.value (length (p ∷ ps)) w

-- ---- what becomes of records

-- the number of records so far, the place behind the last of them, and those of the open group
pub record JoinKept : Type 0 where
  pub count : ℕ
  pub place : ℕ
  pub group : List Part

abbrev pub kept_of : ℕ → ℕ → List Part → JoinKept
kept_of count place group = record { count = count; place = place; group = group }

-- a full group is written, and the next one is opened
abbrev pub full_text : ℕ → List Part → List ℕ
full_text streams group = if nat_lt (length group) streams then [] else joined group

abbrev pub next_group : ℕ → List Part → List Part
next_group streams group = if nat_lt (length group) streams then group else []

abbrev pub group_goes : ℕ → ℕ → ℕ → List Part → Step JoinKept StreamRefusal
group_goes streams count place group =
    goes (full_text streams group) (kept_of count place (next_group streams group))

abbrev pub join_put : ℕ → JoinKept → Item → Option PacketValue → Option StreamWhy → Step JoinKept StreamRefusal
join_put streams k item v None = group_goes streams (k.count + 1) item.place (k.group ++ part_of v item.range ∷ [])
join_put streams k item v (Some why) = stops [] (refusal_of (told k.count) item.place why)

abbrev pub join_value : ℕ → JoinKept → Item → Option PacketValue → Step JoinKept StreamRefusal
join_value streams k item v = join_put streams k item v (differs_in k.group v)

abbrev pub join_held : ℕ → JoinKept → Item → Result (Option PacketValue) Fault → Step JoinKept StreamRefusal
join_held streams k item (Ok v) = join_value streams k item v
join_held streams k item (Err fault) = stops [] (refusal_at (told k.count) item fault)

-- the group that is open at the end of the input, if there is one, is too short
abbrev pub closed_why : List Part → Option StreamWhy
closed_why [] = None
closed_why (p ∷ ps) = Some ShortGroup

abbrev pub cut_why : List Part → StreamWhy
cut_why [] = StoreCut
cut_why (p ∷ ps) = ShortGroup

abbrev pub closed_step : JoinKept → Option StreamWhy → Step (Unit {0}) StreamRefusal
closed_step k None = goes [] tt
closed_step k (Some why) = stops [] (refusal_of (told k.count) k.place why)

-- where the input goes on past the limit no group is over
abbrev pub join_end : JoinKept → InputEnd Cut → Step (Unit {0}) StreamRefusal
join_end k ends.Closed = closed_step k (closed_why k.group)
join_end k (ends.Cut cut) = stops [] (refusal_of (told k.count) cut.place (cut_why k.group))
join_end k ends.Past = goes [] tt

-- groups of so many records
abbrev pub join : ℕ → Meaning (Shown Item) JoinKept Cut StreamRefusal
join streams = record {
  opening = [];
  start = kept_of 0 0 [];
  step = λ k r. join_held streams k r.item (held_in r.item.found r.bytes);
  finish = join_end;
}
