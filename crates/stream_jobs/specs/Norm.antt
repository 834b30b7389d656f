-- The job norm: each multistream packet in its kept form, in the form of the input; ranges and lost records stay.
use Rattle.std.specs.Prelude.{ℕ, ◌+◌, nat_lt, if◌then◌else◌, List, [], ◌∷◌, Option, Some, None}
use Rattle.job_loop.specs.Shown.{Shown}
use Rattle.job_loop.specs.Meaning.{Meaning}
use Rattle.opus_feed.specs.declared.padding.Padding.{Padding}
use Rattle.opus_feed.specs.declared.padding.Padding.TheVariants.{Drop, Keep}
use Rattle.opus_words.specs.declared.form.Form.{Form}
use Rattle.pack_records.specs.declared.cut.Cut.{Cut}
use Rattle.pack_jobs.specs.Records.{record_bytes}
use Rattle.stream_records.specs.declared.item.Spelling.{Spelling}
use Rattle.stream_records.specs.declared.item.StreamsItem.{StreamsItem}
use Rattle.stream_jobs.specs.declared.refusal.StreamWhy.{StreamWhy}
use Rattle.stream_jobs.specs.Refusal.{StreamRefusal}
use Rattle.stream_jobs.specs.Bad.{long_why}
use Rattle.stream_jobs.specs.Each.{Makes, each}
use Rattle.job_ends.specs.Each.{Made, writes, refuses}

-- the first stream of which padding bytes weren't kept, where the first of these has this number
abbrev pub long_from : ℕ → List Spelling → Option ℕ
long_from number [] = None
long_from number (s ∷ ss) = if nat_lt 0 s.dropped then Some number else long_from (number + 1) ss

-- the first stream whose padding bytes are to be kept, and aren't
abbrev pub long_in : Padding → List Spelling → Option ℕ
long_in Drop ss = None
long_in Keep ss = long_from 0 ss

-- the kept form is what is lent of a record
abbrev pub norm_packets : Form → ℕ → Shown StreamsItem → Option ℕ → Made StreamWhy
norm_packets form streams r None = writes (record_bytes form r.item.range r.bytes)
norm_packets form streams r (Some stream) = refuses r.item.place (long_why streams stream)

abbrev pub norm_makes : Form → ℕ → Padding → Makes
norm_makes form streams padding = record {
  packets = λ number r. norm_packets form streams r (long_in padding r.item.streams.items);
  lost = λ number range. record_bytes form range [];
}

abbrev pub norm : Form → ℕ → Padding → Meaning (Shown StreamsItem) ℕ Cut StreamRefusal
norm form streams padding = each streams (norm_makes form streams padding)
