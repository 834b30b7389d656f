-- The job extract: one stream of each record, in canonical form and with range 0; a lost record for a lost one.
use Rattle.std.specs.Prelude.{ℕ, List, [], Option, Some, None, slice_get}
use Rattle.job_loop.specs.Shown.{Shown}
use Rattle.job_loop.specs.Meaning.{Meaning}
use Rattle.opus_packet.specs.Value.{PacketValue}
use Rattle.pack_records.specs.declared.cut.Cut.{Cut}
use Rattle.stream_records.specs.declared.item.StreamsItem.{StreamsItem}
use Rattle.stream_jobs.specs.Refusal.{StreamRefusal}
use Rattle.stream_jobs.specs.StreamsIn.{streams_in}
use Rattle.stream_jobs.specs.Apart.{stream_record, lost_record}
use Rattle.stream_jobs.specs.Each.{Makes, each}
use Rattle.job_ends.specs.Each.{writes}

-- a record for the value, if there is one; a record's packet has one for each stream
abbrev pub value_record : Option PacketValue → List ℕ
value_record None = []
value_record (Some v) = stream_record v

-- this one of so many streams
abbrev pub extract_makes : ℕ → ℕ → Makes
extract_makes streams stream = record {
  packets = λ number r. writes (value_record (slice_get (streams_in streams r.bytes) stream));
  lost = λ number range. lost_record;
}

abbrev pub extract : ℕ → ℕ → Meaning (Shown StreamsItem) ℕ Cut StreamRefusal
extract streams stream = each streams (extract_makes streams stream)
