-- An input of one stream is an input of packets, which the jobs over packets read.
use Rattle.std.specs.Prelude.{◌≡◌, ℕ, List, None, map}
use Rattle.job_loop.specs.Shown.{Shown}
use Rattle.job_loop.specs.Meaning.{going, outcome}
use Rattle.job_loop.specs.declared.input_end.InputEnd.TheVariants.{Closed}
use Rattle.opus_feed.specs.declared.padding.Padding.TheVariants.{Drop}
use Rattle.opus_words.specs.declared.form.Form.TheVariants.{Demo}
use Rattle.pack_records.specs.Demo.{DemoEnds}
use Rattle.pack_records.specs.declared.item.Item.{Item}
use Rattle.pack_jobs.specs.Norm as packets

-- the record of a packet with this range
abbrev pub packet_with_range : ℕ → Shown Item → Shown Item
packet_with_range range r = record {
  item = record { start = r.item.start; place = r.item.place; range = range; found = r.item.found };
  bytes = r.bytes;
}

-- The bytes are a whole store of packets, and norm of packets writes this text of it where every range is 0.
pub record IsNormOfPackets (bytes text : List ℕ) : Type 0 where
  pub records : List (Shown Item)
  pub ends : DemoEnds Drop bytes records None
  pub norms : outcome (packets.norm Demo Drop) (map (packet_with_range 0) records) Closed ≡ going text tt
