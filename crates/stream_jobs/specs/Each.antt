-- A job that makes something of each record of multistream packets by itself.
use Rattle.std.specs.Prelude.{ℕ, List}
use Rattle.job_loop.specs.Shown.{Shown}
use Rattle.job_loop.specs.Meaning.{Meaning}
use Rattle.job_ends.specs.Refusal.{told}
use Rattle.job_ends.specs.Each as ends
use Rattle.job_ends.specs.Each.{Made, writes, refuses}
use Rattle.pack_records.specs.declared.cut.Cut.{Cut}
use Rattle.stream_records.specs.declared.item.StreamsFound.{StreamsFound}
use Rattle.stream_records.specs.declared.item.StreamsFound.TheVariants.{Packets, Lost, Broken, Unequal}
use Rattle.stream_records.specs.declared.item.StreamsItem.{StreamsItem}
use Rattle.stream_jobs.specs.declared.refusal.StreamWhy.{StreamWhy}
use Rattle.stream_jobs.specs.declared.refusal.StreamWhy.TheVariants as why
use Rattle.stream_jobs.specs.Refusal.{StreamRefusal, cut_refusal}
use Rattle.stream_jobs.specs.Bad.{fault_why, bad_place}

-- what a job makes of a record of this number that holds a multistream packet, and the text for one of this number and
-- range that holds a lost one
pub record Makes : Type 0 where
  pub packets : ℕ → Shown StreamsItem → Made StreamWhy
  pub lost : ℕ → ℕ → List ℕ

-- any other record is refused: at the fault of the first stream that doesn't read, or where the first stream begins that
-- lasts other than stream 0
abbrev pub found_made : ℕ → Makes → ℕ → Shown StreamsItem → StreamsFound → Made StreamWhy
found_made streams makes number r Packets = makes.packets number r
found_made streams makes number r Lost = writes (makes.lost number r.item.range)
found_made streams makes number r (Broken stream start fault) =
    refuses (bad_place start fault) (fault_why streams stream fault)
found_made streams makes number r (Unequal stream start) = refuses start (why.Unequal stream)

-- what becomes of the record of this number
abbrev pub made_of : ℕ → Makes → ℕ → Shown StreamsItem → Made StreamWhy
made_of streams makes number r = found_made streams makes number r r.item.found

-- the job that makes this of each record, which has this number
abbrev pub each_of : (ℕ → Shown StreamsItem → Made StreamWhy) → Meaning (Shown StreamsItem) ℕ Cut StreamRefusal
each_of made = ends.each cut_refusal made

-- the same of each record of so many streams, by what the job makes of it
abbrev pub each : ℕ → Makes → Meaning (Shown StreamsItem) ℕ Cut StreamRefusal
each streams makes = each_of (λ number r. made_of streams makes (told number) r)
