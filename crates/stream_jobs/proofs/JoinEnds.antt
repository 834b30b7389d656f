-- A run of the job join for which there was no memory before the first read.
use Rattle.std.specs.Prelude.{ℕ}
use Rattle.opus_io.specs.Outside.{Outside}
use Rattle.opus_feed.specs.declared.padding.Padding.TheVariants.{Drop}
use Rattle.opus_words.specs.declared.ending.Ending.TheVariants.{NoMemory}
use Rattle.opus_words.specs.declared.form.Form.TheVariants.{Demo}
use Rattle.job_ends.proofs.EndsLemmas.{unstarted_ends}
use Rattle.pack_records.specs.Demo.{DemoSettles, DemoEnds}
use Rattle.pack_jobs.specs.PackEnds.{place_of}
use Rattle.pack_jobs.proofs.PackLemmas.{none_settled}
use Rattle.stream_jobs.specs.Refusal.{Tells}
use Rattle.stream_jobs.specs.Join.{join}
use Rattle.stream_jobs.specs.JoinEnds.{JoinEnds}

pub unstarted_join : (streams limit : ℕ) (outside : Outside) (Untouched : Type 0) → Untouched
    → JoinEnds streams limit outside outside Untouched NoMemory
unstarted_join streams limit outside Untouched same =
    unstarted_ends Tells place_of (join streams) (DemoSettles Drop) (DemoEnds Drop) limit outside Untouched same
    (none_settled Demo Drop)
