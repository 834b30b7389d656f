-- Which answer a count of the outside stands for, and when memory may run out.
use Rattle.std.specs.Prelude.{◌≡◌, ◌⊎◌, ℕ, ◌≤◌, Bool, true, false, Result, Ok, Err}
use Rattle.opus_io.specs.Cause.{Rose, RoseWhere}
use Rattle.opus_io.specs.declared.sink.SinkStop.{SinkStop}
use Rattle.opus_io.specs.declared.sink.SinkStop.TheVariants.{Failed, NoMemory as NoMemoryIn}
use Rattle.job_loop.specs.declared.job.JobStop.{JobStop}
use Rattle.job_loop.specs.declared.job.JobStop.TheVariants.{Refused as RefusedBy, Sink}
use Rattle.job_loop.specs.declared.ending.Ending.{Ending}
use Rattle.job_loop.specs.declared.ending.Ending.TheVariants as endings

-- this stop is a write that failed; or memory that ran out
abbrev pub is_failed : SinkStop → Bool
is_failed Failed = true
is_failed NoMemoryIn = false

abbrev pub is_want : SinkStop → Bool
is_want Failed = false
is_want NoMemoryIn = true

-- a job stopped by a write that failed; or where memory ran out
abbrev pub is_write_stop : {T F : Type 0} → Result T (JobStop F) → Bool
is_write_stop (Ok done) = false
is_write_stop (Err (RefusedBy refusal)) = false
is_write_stop (Err (Sink stop)) = is_failed stop

abbrev pub is_memory_stop : {T F : Type 0} → Result T (JobStop F) → Bool
is_memory_stop (Ok done) = false
is_memory_stop (Err (RefusedBy refusal)) = false
is_memory_stop (Err (Sink stop)) = is_want stop

-- the answer names a read that failed, a write that failed, or memory
abbrev pub is_read_fault : {F : Type 0} → Ending F → Bool
is_read_fault endings.Ok = false
is_read_fault (endings.Refused refusal) = false
is_read_fault endings.ReadFault = true
is_read_fault endings.WriteFault = false
is_read_fault endings.InputLimit = false
is_read_fault endings.NoMemory = false

abbrev pub is_write_fault : {F : Type 0} → Ending F → Bool
is_write_fault endings.Ok = false
is_write_fault (endings.Refused refusal) = false
is_write_fault endings.ReadFault = false
is_write_fault endings.WriteFault = true
is_write_fault endings.InputLimit = false
is_write_fault endings.NoMemory = false

abbrev pub is_no_memory : {F : Type 0} → Ending F → Bool
is_no_memory endings.Ok = false
is_no_memory (endings.Refused refusal) = false
is_no_memory endings.ReadFault = false
is_no_memory endings.WriteFault = false
is_no_memory endings.InputLimit = false
is_no_memory endings.NoMemory = true

-- a write's fault and want of memory, each by its cause: faults of the sink rose exactly where the first is
-- answered; and the second is answered only where growths of the sink were refused, or for the reason that is given
pub record Causes (write memory : Bool) (Reason : Type 0) (faults faults' refusals refusals' : ℕ) : Type 0 where
  pub written : RoseWhere write faults faults'
  pub later : refusals ≤ refusals'
  pub wanted : memory ≡ true → Reason ⊎ Rose refusals refusals'

-- the same of a call that ends a run or lets it go on
abbrev pub is_write_halt : {T F : Type 0} → Result T (Ending F) → Bool
is_write_halt (Ok done) = false
is_write_halt (Err ending) = is_write_fault ending

abbrev pub is_memory_halt : {T F : Type 0} → Result T (Ending F) → Bool
is_memory_halt (Ok done) = false
is_memory_halt (Err ending) = is_no_memory ending
