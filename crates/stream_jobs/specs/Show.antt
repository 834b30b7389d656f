-- The job show: the lines of the packet of each stream, as it was spelled; a lost record has a line too.
use Rattle.std.specs.Prelude.{ℕ, ◌+◌, List, [], ◌∷◌, ◌++◌}
use Rattle.job_loop.specs.Shown.{Shown}
use Rattle.job_loop.specs.Meaning.{Meaning}
use Rattle.opus_packet.specs.Value.{PacketValue}
use Rattle.pack_records.specs.declared.cut.Cut.{Cut}
use Rattle.pack_jobs.specs.PacketLines.{packet_lines}
use Rattle.pack_jobs.specs.Show.{lost_line}
use Rattle.stream_records.specs.declared.item.Spelling.{Spelling}
use Rattle.stream_records.specs.declared.item.StreamsItem.{StreamsItem}
use Rattle.stream_jobs.specs.Refusal.{StreamRefusal}
use Rattle.stream_jobs.specs.StreamsIn.{streams_in}
use Rattle.stream_jobs.specs.Each.{Makes, each}
use Rattle.job_ends.specs.Each.{writes}

-- the lines of streams of record K, of which the first has this index: how each was spelled, and its value
abbrev pub stream_lines : ℕ → ℕ → List Spelling → List PacketValue → List ℕ
stream_lines number stream [] vs = []
stream_lines number stream (s ∷ ss) [] = []
stream_lines number stream (s ∷ ss) (v ∷ vs) =
    packet_lines number stream s.shape s.size v ++ stream_lines number (stream + 1) ss vs

abbrev pub show_makes : ℕ → Makes
show_makes streams = record {
  packets = λ number r. writes (stream_lines number 0 r.item.streams.items (streams_in streams r.bytes));
  lost = λ number range. lost_line number;
}

abbrev pub show : ℕ → Meaning (Shown StreamsItem) ℕ Cut StreamRefusal
show streams = each streams (show_makes streams)
