-- How a run of the job join ends.
use Rattle.std.specs.Prelude.{ℕ}
use Rattle.opus_io.specs.Outside.{Outside}
use Rattle.opus_feed.specs.declared.padding.Padding.TheVariants.{Drop}
use Rattle.opus_words.specs.declared.ending.Ending.{Ending}
use Rattle.job_ends.specs.Ends.{MeaningEnds}
use Rattle.pack_records.specs.Demo.{DemoSettles, DemoEnds}
use Rattle.pack_jobs.specs.PackEnds.{place_of}
use Rattle.stream_jobs.specs.Refusal.{Tells}
use Rattle.stream_jobs.specs.Join.{join}

-- the job with groups of so many records ended as its meaning has it over the records of a store
abbrev pub JoinEnds : ℕ → ℕ → Outside → Outside → Type 0 → Ending → Type 0
JoinEnds streams = MeaningEnds Tells place_of (join streams) (DemoSettles Drop) (DemoEnds Drop)
