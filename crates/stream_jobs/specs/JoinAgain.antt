-- What join makes of the store that apart wrote.
use Rattle.std.specs.Prelude.{◌≡◌, ℕ, List, None, map}
use Rattle.std.specs.List.{AllByRecursion}
use Rattle.job_loop.specs.Shown.{Shown}
use Rattle.job_loop.specs.Meaning.{going, outcome}
use Rattle.job_loop.specs.declared.input_end.InputEnd.TheVariants.{Closed}
use Rattle.opus_feed.specs.declared.padding.Padding.TheVariants.{Drop}
use Rattle.opus_words.specs.declared.form.Form.TheVariants.{Demo}
use Rattle.pack_records.specs.Demo as packets
use Rattle.pack_records.specs.declared.item.Item.{Item}
use Rattle.stream_records.specs.declared.item.StreamsFound.{StreamsFound}
use Rattle.stream_records.specs.declared.item.StreamsFound.TheVariants.{Packets, Lost, Broken, Unequal}
use Rattle.stream_records.specs.declared.item.StreamsItem.{StreamsItem}
use Rattle.stream_jobs.specs.Norm.{norm}
use Rattle.stream_jobs.specs.Join.{join}

-- a multistream packet, or a lost one
abbrev pub IsGood : StreamsFound → Type 0
IsGood Packets = Unit {0}
IsGood Lost = Unit {0}
IsGood (Broken stream start fault) = ⊥
IsGood (Unequal stream start) = ⊥

abbrev pub AreGood : List (Shown StreamsItem) → Type 0
AreGood rs = AllByRecursion (λ r. IsGood r.item.found) rs

-- the record with this range
abbrev pub with_range : ℕ → Shown StreamsItem → Shown StreamsItem
with_range range r = record {
  item = record {
    start = r.item.start;
    place = r.item.place;
    range = range;
    found = r.item.found;
    streams = r.item.streams;
  };
  bytes = r.bytes;
}

-- The text is a whole store of packets. Join takes its records, and writes of them what norm writes of these where every
-- range is 0.
pub record IsJoinedAgain (streams : ℕ) (rs : List (Shown StreamsItem)) (text : List ℕ) : Type 0 where
  pub records : List (Shown Item)
  pub ends : packets.DemoEnds Drop text records None
  pub joined : List ℕ
  pub joins : outcome (join streams) records Closed ≡ going joined tt
  pub norms : outcome (norm Demo streams Drop) (map (with_range 0) rs) Closed ≡ going joined tt
