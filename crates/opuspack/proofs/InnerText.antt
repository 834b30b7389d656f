-- What a run over a gathered sink says of the sink inside, and how the program ends then.
use Rattle.std.proofs.Common.{◌≡◌, ◌⊎◌, ℕ, List, [], Option, Result, Ok, Err, OnOk, OnErr, inl, inr}
use Rattle.std.specs.Io.KnownBytes.{Appends, append_known}
use Rattle.opus_io.specs.Cause.{Rose}
use Rattle.opus_io.specs.Sink.{Grew}
use Rattle.opus_io.specs.declared.sink.SinkStop.TheVariants.{Failed, NoMemory}
use Rattle.job_loop.specs.Causes.{Causes, is_write_stop, is_memory_stop}
use Rattle.job_loop.specs.Telling.{Front}
use Rattle.job_loop.specs.declared.job.JobStop.{JobStop}
use Rattle.job_loop.specs.declared.job.JobStop.TheVariants.{Refused, Sink}
use Rattle.job_loop.proofs.InnerLemmas.{appends_inner, front_inner}
use Rattle.opuspack.specs.declared.never.Never.{Never}
use Rattle.opuspack.specs.RunGenerated.{stopped_ending}
use Rattle.opuspack.specs.WritesText.{is_write_fault, is_no_memory, IsWritten}

module _ (text : List ℕ) (a b : Option (List ℕ)) (held held' : List ℕ) (none : held ≡ []) (grew : Grew a b) where
  -- nothing was held back at the start, and the sink inside only grew
  pub written_inner : (stopped : Result (Unit {0}) (JobStop Never))
      → OnOk stopped (Appends (append_known a held) (append_known b held') text) → OnOk stopped (held' ≡ [])
      → OnErr stopped (Front text (append_known a held) (append_known b held')) → IsWritten text (stopped_ending stopped) a b
  written_inner (Ok done) all none' front = appends_inner a b held held' text none none' all
  written_inner (Err (Refused never)) all none' front = elim never [ ]
  written_inner (Err (Sink Failed)) all none' front = front_inner text a b held held' none grew front
  written_inner (Err (Sink NoMemory)) all none' front = front_inner text a b held held' none grew front

wanted : (Lacks Unwritten R : Type 0) → (Lacks → ⊥) → Lacks ⊎ R → Unwritten ⊎ R
wanted Lacks Unwritten R spared (inl lacks) = absurd (spared lacks)
wanted Lacks Unwritten R spared (inr rose) = inr rose

-- a job that can't run out of memory by itself runs out for its sink's sake
pub causes_ended : (stopped : Result (Unit {0}) (JobStop Never)) (Lacks Unwritten : Type 0) (f f' r r' : ℕ) → (Lacks → ⊥)
    → Causes (is_write_stop stopped) (is_memory_stop stopped) Lacks f f' r r'
    → Causes (is_write_fault (stopped_ending stopped)) (is_no_memory (stopped_ending stopped)) Unwritten f f' r r'
causes_ended (Ok done) Lacks Unwritten f f' r r' spared c = record {
  written = c.written;
  later = c.later;
  wanted = λ is. wanted Lacks Unwritten (Rose r r') spared (c.wanted is);
}
causes_ended (Err (Refused never)) Lacks Unwritten f f' r r' spared c = elim never [ ]
causes_ended (Err (Sink Failed)) Lacks Unwritten f f' r r' spared c = record {
  written = c.written;
  later = c.later;
  wanted = λ is. wanted Lacks Unwritten (Rose r r') spared (c.wanted is);
}
causes_ended (Err (Sink NoMemory)) Lacks Unwritten f f' r r' spared c = record {
  written = c.written;
  later = c.later;
  wanted = λ is. wanted Lacks Unwritten (Rose r r') spared (c.wanted is);
}
