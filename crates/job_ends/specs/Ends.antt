-- What a run of a job says, as the program tells its end.
use Rattle.std.specs.Prelude.{ℕ, ◌+◌, List, [], IfSome, Option}
use Rattle.opus_io.specs.Cause.{RoseWhere}
use Rattle.opus_io.specs.Outside.{Outside}
use Rattle.job_loop.specs.Meaning.{Meaning, outcome}
use Rattle.job_loop.specs.Ran.{Ran}
use Rattle.job_loop.specs.Reading.{Reads, Answers, TakesAtMost}
use Rattle.job_loop.specs.Causes.{Causes, is_read_fault, is_write_fault, is_no_memory}
use Rattle.job_loop.specs.declared.input_end.InputEnd.{InputEnd}
use Rattle.job_loop.specs.declared.ending.Ending as loop
use Rattle.job_loop.specs.declared.ending.Ending.TheVariants as endings
use Rattle.opus_words.specs.declared.ending.Ending.{Ending}
use Rattle.opus_words.specs.declared.ending.JobFault.{JobFault}
use Rattle.opus_words.specs.declared.ending.Ending.TheVariants.{Ok, Refused, ReadFault, WriteFault, NoMemory, InputLimit}

-- the program's ending tells this one, and its fault the refusal
abbrev pub TellsEnding : {F : Type 0} → (JobFault → F → Type 0) → Ending → loop.Ending F → Type 0
TellsEnding Tells Ok endings.Ok = Unit {0}
TellsEnding Tells (Refused f) (endings.Refused r) = Tells f r
TellsEnding Tells ReadFault endings.ReadFault = Unit {0}
TellsEnding Tells WriteFault endings.WriteFault = Unit {0}
TellsEnding Tells NoMemory endings.NoMemory = Unit {0}
TellsEnding Tells InputLimit endings.InputLimit = Unit {0}
TellsEnding Tells result ending = ⊥

-- the outside of a run, by its parts
abbrev pub seen_as : Option (List ℕ) → ℕ → Option (List ℕ) → ℕ → ℕ → Outside
seen_as left reads contents writes refusals = record {
  left = left;
  reads = reads;
  contents = contents;
  writes = writes;
  refusals = refusals;
}

-- A run of the job m over records as Settles and Ends have them ended so: this was the outside, and this it is. `place`
-- says where a record was decided. Without Wanted, want of memory has its cause in the sink.
pub record RunEnds {R K C F : Type 0} (m : Meaning R K C F) (Settles : List ℕ → List R → Type 0)
    (Ends : List ℕ → List R → Option C → Type 0) (place : R → ℕ) (limit : ℕ) (before after : Outside) (Wanted : Type 0)
    (ending : loop.Ending F) : Type 0 where
  pub ran : Ran m Settles Ends place limit before.left after.left before.contents after.contents [] ending
  pub judged : IfSome before.left (λ x. (rs : List R) (end : InputEnd C) → Reads Settles Ends limit x rs end
      → Answers ending end (outcome m rs end) before.contents after.contents)
  pub taken : TakesAtMost (limit + 1) before.left after.left
  pub read : RoseWhere (is_read_fault ending) before.reads after.reads
  pub cause : Causes (is_write_fault ending) (is_no_memory ending) Wanted before.writes after.writes before.refusals
      after.refusals

-- What is said of a run over records R as Settles and Ends have them, whose cuts a C tells: its limit, the outside before
-- and afterwards, why else memory may be wanted, and the program's ending.
abbrev pub RunOver : Type 0 → Type 0 → Type 1
RunOver R C = (List ℕ → List R → Type 0) → (List ℕ → List R → Option C → Type 0) → ℕ → Outside → Outside → Type 0 → Ending → Type 0

-- the same, as the program's ending tells it
abbrev pub MeaningEnds : {R K C F : Type 0} → (JobFault → F → Type 0) → (R → ℕ) → Meaning R K C F → RunOver R C
MeaningEnds {R} {K} {C} {F} Tells place m Settles Ends limit before after Wanted result =
    (ending : loop.Ending F) × TellsEnding Tells result ending × RunEnds m Settles Ends place limit before after Wanted ending
