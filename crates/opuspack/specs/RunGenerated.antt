-- What the parts of a run over made records answer, which no clause of the program cites.
use Rattle.std.specs.Prelude.{◌≡◌, ℕ, List, [], Result, Ok, Err}
use Rattle.std.specs.declared.option.Option.{Option}
use Rattle.std.specs.Io.KnownBytes.{Appends}
use Rattle.job_loop.specs.Shown.{Shown}
use Rattle.job_loop.specs.Meaning.{Meaning, going, runs, opened}
use Rattle.job_loop.specs.declared.job.JobStop.{JobStop}
use Rattle.job_loop.specs.declared.job.JobStop.TheVariants.{Refused, Sink}
use Rattle.opus_io.specs.declared.sink.SinkStop.{SinkStop}
use Rattle.opus_io.specs.declared.sink.SinkStop.TheVariants.{Failed, NoMemory}
use Rattle.opus_words.specs.declared.ending.Ending.{Ending}
use Rattle.opus_words.specs.declared.ending.Ending.TheVariants as endings
use Rattle.opuspack.specs.declared.made.MadeRecord.{MadeRecord}
use Rattle.opuspack.specs.declared.never.Never.{Never}
use Rattle.opuspack.specs.Made.{made_records}

-- the job was handed nothing yet, and has no opening
abbrev pub IsFresh : {K : Type 0} → Meaning (Shown MadeRecord) K Never Never → (K → Type 0) → Type 0
IsFresh m Job = (m.opening ≡ []) × Job m.start

-- The first records of a seed, so many, were handed to the job, and their text is written.
pub record HasTaken {K : Type 0} (m : Meaning (Shown MadeRecord) K Never Never) (Job : K → Type 0) (seed number : ℕ)
    (old now : Option (List ℕ)) : Type 0 where
  pub text : List ℕ
  pub kept : K
  pub run : runs m (opened m) (made_records seed number) ≡ going text kept
  pub job : Job kept
  pub written : Appends old now text

-- how a run ends that a sink stops, or nothing
abbrev pub sink_ending : SinkStop → Ending
sink_ending Failed = endings.WriteFault
sink_ending NoMemory = endings.NoMemory

abbrev pub stopped_ending : Result (Unit {0}) (JobStop Never) → Ending
stopped_ending (Ok done) = endings.Ok
stopped_ending (Err (Refused never)) = elim never [ ]
stopped_ending (Err (Sink stop)) = sink_ending stop
