-- A job that reads no input: its words determine all that it writes.
use Rattle.std.specs.Prelude.{ℕ, List, Bool, true, false}
use Rattle.std.specs.declared.option.Option.{Option}
use Rattle.std.specs.Io.KnownBytes.{Appends}
use Rattle.opus_io.specs.Outside.{Outside}
use Rattle.job_loop.specs.Causes.{Causes}
use Rattle.job_loop.specs.Telling.{Front}
use Rattle.opus_words.specs.declared.ending.Ending.{Ending}
use Rattle.opus_words.specs.declared.ending.Ending.TheVariants.{Ok, Refused, ReadFault, WriteFault, NoMemory, InputLimit}

-- the answer names a write that failed, or memory
abbrev pub is_write_fault : Ending → Bool
is_write_fault Ok = false
is_write_fault (Refused f) = false
is_write_fault ReadFault = false
is_write_fault WriteFault = true
is_write_fault NoMemory = false
is_write_fault InputLimit = false

abbrev pub is_no_memory : Ending → Bool
is_no_memory Ok = false
is_no_memory (Refused f) = false
is_no_memory ReadFault = false
is_no_memory WriteFault = false
is_no_memory NoMemory = true
is_no_memory InputLimit = false

-- all of the text was written, or a front of it where the run was stopped; there is no other answer
abbrev pub IsWritten : List ℕ → Ending → Option (List ℕ) → Option (List ℕ) → Type 0
IsWritten text Ok old new = Appends old new text
IsWritten text (Refused f) old new = ⊥
IsWritten text ReadFault old new = ⊥
IsWritten text WriteFault old new = Front text old new
IsWritten text NoMemory old new = Front text old new
IsWritten text InputLimit old new = ⊥

-- A run that writes this text, what the output held before and holds now, its counts of faults and of refused growths,
-- and the answer. A write that failed is answered exactly where faults rose. Want of memory comes only where a growth
-- was refused, or where the output is as it was, as Unwritten says.
pub record WritesText (text : List ℕ) (old new : Option (List ℕ)) (faults faults' refusals refusals' : ℕ)
    (Unwritten : Type 0) (ending : Ending) : Type 0 where
  pub written : IsWritten text ending old new
  pub cause : Causes (is_write_fault ending) (is_no_memory ending) Unwritten faults faults' refusals refusals'

-- the same of the outside of a run, whose source is as it was
pub record WritesOnly (text : List ℕ) (before after : Outside) (Unread Unwritten : Type 0) (ending : Ending) : Type 0 where
  pub unread : Unread
  pub writes : WritesText text before.contents after.contents before.writes after.writes before.refusals after.refusals
      Unwritten ending
