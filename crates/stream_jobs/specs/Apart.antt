-- The job apart: a record of a store for each stream, in their order, in canonical form and with range 0; and as many lost
-- ones for a lost record.
use Rattle.std.specs.Prelude.{ℕ, List, [], flat_map, replicate}
use Rattle.std.specs.List.{concat}
use Rattle.job_loop.specs.Shown.{Shown}
use Rattle.job_loop.specs.Meaning.{Meaning}
use Rattle.opus_packet.specs.Value.{PacketValue}
use Rattle.opus_words.specs.declared.form.Form.TheVariants.{Demo}
use Rattle.pack_records.specs.declared.cut.Cut.{Cut}
use Rattle.pack_jobs.specs.Records.{record_bytes, canonical_record}
use Rattle.stream_records.specs.declared.item.StreamsItem.{StreamsItem}
use Rattle.stream_jobs.specs.Refusal.{StreamRefusal}
use Rattle.stream_jobs.specs.StreamsIn.{streams_in}
use Rattle.stream_jobs.specs.Each.{Makes, each}
use Rattle.job_ends.specs.Each.{writes}

-- a packet of this value as a record of a store
abbrev pub stream_record : PacketValue → List ℕ
stream_record v = canonical_record Demo 0 v

-- a record for each value
abbrev pub stream_records : List PacketValue → List ℕ
stream_records vs = flat_map stream_record vs

-- a lost record
abbrev pub lost_record : List ℕ
lost_record = record_bytes Demo 0 []

abbrev pub lost_records : ℕ → List ℕ
lost_records count = concat (replicate count lost_record)

abbrev pub apart_makes : ℕ → Makes
apart_makes streams = record {
  packets = λ number r. writes (stream_records (streams_in streams r.bytes));
  lost = λ number range. lost_records streams;
}

abbrev pub apart : ℕ → Meaning (Shown StreamsItem) ℕ Cut StreamRefusal
apart streams = each streams (apart_makes streams)
