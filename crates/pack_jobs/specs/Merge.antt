-- The job merge: packets in groups, each group written as one packet; lost records stay.
use Rattle.std.specs.Prelude.{ℕ, ◌+◌, ◌-◌, ◌==◌, nat_le, ◌&&◌, not, Bool, false, if◌then◌else◌, List, [], ◌++◌, Option, Some, None, option_map, Result, Ok, Err}
use Rattle.job_loop.specs.Shown.{Shown}
use Rattle.job_loop.specs.Meaning.{Meaning, Step, goes, stops}
use Rattle.job_loop.specs.declared.input_end.InputEnd.{InputEnd}
use Rattle.job_loop.specs.declared.input_end.InputEnd.TheVariants as ends
use Rattle.opus_packet.specs.Value.{PacketValue, duration_of, max_duration}
use Rattle.opus_repack.specs.Collected.{with_frames}
use Rattle.opus_words.specs.declared.form.Form.{Form}
use Rattle.pack_records.specs.declared.cut.Cut.{Cut}
use Rattle.pack_records.specs.declared.item.Found.{Found}
use Rattle.pack_records.specs.declared.item.Found.TheVariants.{Packet, Lost, Bad}
use Rattle.pack_records.specs.declared.item.Item.{Item}
use Rattle.pack_records.specs.Lent.{lent_value}
use Rattle.pack_jobs.specs.declared.refusal.Why.{Why}
use Rattle.pack_jobs.specs.declared.refusal.Why.TheVariants.{StoreCut, MixedKind, TooLong}
use Rattle.pack_jobs.specs.Refusal.{refusal_at, Refusal}
use Rattle.job_ends.specs.Refusal.{told, refusal_of}
use Rattle.pack_jobs.specs.Records.{record_bytes, canonical_record}

-- An open group: the value of all its frames, if it has packets; how many packets more it takes, where there is a
-- bound; and the range of the last one.
pub record Group : Type 0 where
  pub value : Option PacketValue
  pub left : Option ℕ
  pub range : ℕ

abbrev pub group_of : Option PacketValue → Option ℕ → ℕ → Group
group_of value left range = record { value = value; left = left; range = range }

-- a group without packets that takes so many, where there is a bound
abbrev pub no_packets : Option ℕ → Group
no_packets most = group_of None most 0

-- one packet more, of this value and range
abbrev pub with_packet : Group → PacketValue → ℕ → Group
with_packet g v range = group_of (Some (with_frames g.value v)) (option_map (λ n. n - 1) g.left) range

-- it takes no more
abbrev pub takes_none : Option ℕ → Bool
takes_none None = false
takes_none (Some n) = n == 0

-- the group as one record, if it has packets
abbrev pub value_text : Form → ℕ → Option PacketValue → List ℕ
value_text form range None = []
value_text form range (Some v) = canonical_record form range v

abbrev pub group_text : Form → Group → List ℕ
group_text form g = value_text form g.range g.value

-- ---- which packets go into a group

-- both have one configuration and the same channels
abbrev pub is_same_kind : PacketValue → PacketValue → Bool
is_same_kind v w = (v.config == w.config) && (if v.stereo then w.stereo else not w.stereo)

-- a packet goes behind the frames so far; or it is of another kind, or together they last too long
abbrev pub put_behind : Option PacketValue → PacketValue → Result (Unit {0}) Why
put_behind None w = Ok tt
put_behind (Some v) w =
    if is_same_kind v w then (if nat_le (duration_of v + duration_of w) max_duration then Ok tt else Err TooLong)
    else Err MixedKind

-- the same of the value that is lent of a record's packet, which each has
abbrev pub lent_behind : Option PacketValue → Option PacketValue → Result (Unit {0}) Why
lent_behind held (Some w) = put_behind held w
lent_behind held None = Ok tt

abbrev pub with_lent : Group → Option PacketValue → ℕ → Group
with_lent g (Some v) range = with_packet g v range
with_lent g None range = g

-- ---- what becomes of records

-- the number of records so far, and the open group
pub record MergeKept : Type 0 where
  pub count : ℕ
  pub group : Group

abbrev pub kept_of : ℕ → Group → MergeKept
kept_of count group = record { count = count; group = group }

-- a group that takes no more is written, and the next one is opened
abbrev pub full_text : Form → Group → List ℕ
full_text form g = if takes_none g.left then group_text form g else []

abbrev pub next_group : Option ℕ → Group → Group
next_group most g = if takes_none g.left then no_packets most else g

abbrev pub group_goes : Form → Option ℕ → ℕ → Group → Step MergeKept Refusal
group_goes form most count g = goes (full_text form g) (kept_of count (next_group most g))

abbrev pub merge_put : Form → Option ℕ → MergeKept → Item → Group → Result (Unit {0}) Why → Step MergeKept Refusal
merge_put form most k item g (Ok done) = group_goes form most (k.count + 1) g
merge_put form most k item g (Err why) = stops [] (refusal_of (told k.count) item.place why)

-- a packet of this value
abbrev pub merge_packet : Form → Option ℕ → MergeKept → Item → Option PacketValue → Step MergeKept Refusal
merge_packet form most k item v =
    merge_put form most k item (with_lent k.group v item.range) (lent_behind k.group.value v)

abbrev pub merge_found : Form → Option ℕ → MergeKept → Shown Item → Found → Step MergeKept Refusal
merge_found form most k r (Packet framing shape size) = merge_packet form most k r.item (lent_value framing r.bytes)
merge_found form most k r Lost =
    goes (group_text form k.group ++ record_bytes form r.item.range []) (kept_of (k.count + 1) (no_packets most))
merge_found form most k r (Bad fault) = stops [] (refusal_at (told k.count) r.item fault)

-- the last group ends with the input; where the input is cut, or goes on past the limit, it isn't over
abbrev pub merge_end : Form → MergeKept → InputEnd Cut → Step (Unit {0}) Refusal
merge_end form k ends.Closed = goes (group_text form k.group) tt
merge_end form k (ends.Cut cut) = stops [] (refusal_of (told k.count) cut.place StoreCut)
merge_end form k ends.Past = goes [] tt

-- groups of at most so many packets, where there is a bound
abbrev pub merge : Form → Option ℕ → Meaning (Shown Item) MergeKept Cut Refusal
merge form most = record {
  opening = [];
  start = kept_of 0 (no_packets most);
  step = λ k r. merge_found form most k r r.item.found;
  finish = merge_end form;
}
