-- The job that the object of a job on each record of multistream packets does.
use Rattle.std.specs.Prelude.{ℕ}
use Rattle.job_loop.specs.Shown.{Shown}
use Rattle.job_loop.specs.Meaning.{Meaning}
use Rattle.job_ends.specs.declared.each.Each.{Each}
use Rattle.job_ends.specs.EachStands.{maker_of}
use Rattle.pack_records.specs.declared.cut.Cut.{Cut}
use Rattle.stream_records.specs.declared.item.StreamsItem.{StreamsItem}
use Rattle.stream_jobs.specs.declared.of_streams.OfStreams.{OfStreams}
use Rattle.stream_jobs.specs.Refusal.{StreamRefusal}
use Rattle.stream_jobs.specs.Each.{Makes, each}

-- by what is made of each record
abbrev pub streams_job : {M : Type 0} → (M → Makes) → Each (OfStreams M) → Meaning (Shown StreamsItem) ℕ Cut StreamRefusal
streams_job makes e = each (maker_of e).streams (makes (maker_of e).make)
