-- How a run ends: the exit status and the note.
use Rattle.std.specs.Prelude.{ℕ, ◌⊎◌, List, ◌++◌, take, codes}
use Rattle.std.specs.declared.option.Option.{Option}
use Rattle.std.specs.Io.KnownBytes.{Appends}
use Rattle.std.specs.declared.io.ErrorKind.{ErrorKind}
use Rattle.std.specs.declared.io.ErrorKind.TheVariants.{OutOfMemory}
use Rattle.opus_io.specs.Cause.{Rose}
use Rattle.opus_words.specs.declared.ending.Ending.{Ending}
use Rattle.opus_words.specs.declared.ending.Ending.TheVariants as ending
use Rattle.opus_words.specs.declared.fault.UsageKind.{UsageKind}
use Rattle.opus_words.specs.declared.fault.UsageKind.TheVariants as kind
use Rattle.opus_words.specs.Options.{option_name}
use Rattle.opuspack.specs.NoteLine.{note, ending_note}
use Rattle.opuspack.specs.declared.status.Status.{Status}
use Rattle.opuspack.specs.declared.status.Status.TheVariants as status
use Rattle.opuspack.specs.declared.finish.Finish.{Finish}
use Rattle.opuspack.specs.declared.finish.Finish.TheVariants.{Usage, Ended}

abbrev pub code_of : Status → ℕ
code_of status.Ok = 0
code_of status.Refused = 1
code_of status.Usage = 2
code_of status.ReadFault = 3
code_of status.WriteFault = 4
code_of status.NoMemory = 5
code_of status.InputLimit = 6

abbrev pub status_of_ending : Ending → Status
status_of_ending ending.Ok = status.Ok
status_of_ending (ending.Refused f) = status.Refused
status_of_ending ending.ReadFault = status.ReadFault
status_of_ending ending.WriteFault = status.WriteFault
status_of_ending ending.NoMemory = status.NoMemory
status_of_ending ending.InputLimit = status.InputLimit

abbrev pub status_of : Finish → Status
status_of (Usage k) = status.Usage
status_of (Ended e) = status_of_ending e

-- how the program ends where the runtime refuses its arguments: what is no text is wrong words
abbrev pub refused_as : ErrorKind → Finish
refused_as OutOfMemory = Ended ending.NoMemory
refused_as _ = Usage kind.Words

-- what is wrong with the words
abbrev pub usage_text : UsageKind → List ℕ
usage_text kind.Words = codes "words"
usage_text kind.Job = codes "job"
usage_text (kind.Option o) = codes "option --" ++ option_name o
usage_text (kind.Value o) = codes "value --" ++ option_name o
usage_text (kind.Missing o) = codes "missing --" ++ option_name o

-- the note: nothing where all is well
abbrev pub note_of : Finish → List ℕ
note_of (Usage k) = note (codes "usage: " ++ usage_text k)
note_of (Ended e) = ending_note e

-- the note was written; or a front of it, where a write of it failed in this call
abbrev pub Noted : List ℕ → Option (List ℕ) → Option (List ℕ) → ℕ → ℕ → ℕ → ℕ → Type 0
Noted line old new faults faults' refusals refusals' =
    Appends old new line
    ⊎ ((n : ℕ) × Appends old new (take n line) × (Rose faults faults' ⊎ Rose refusals refusals'))
