-- The records of a whole input under a limit, and the answer that they ask for.
use Rattle.std.specs.Prelude.{◌≡◌, ◌≢◌, ℕ, ◌<◌, ◌≤◌, List, length, take, Option, None, Some}
use Rattle.std.specs.Io.KnownBytes.{Appends, Consumes}
use Rattle.job_loop.specs.declared.input_end.InputEnd.{InputEnd}
use Rattle.job_loop.specs.declared.input_end.InputEnd.TheVariants.{Closed, Cut, Past}
use Rattle.job_loop.specs.declared.ending.Ending.{Ending}
use Rattle.job_loop.specs.declared.ending.Ending.TheVariants as endings
use Rattle.job_loop.specs.Meaning.{Meaning, Run, going, broke, runs, opened}

-- these are the records of the input x under a limit, and this is its end
abbrev pub Reads : {R C : Type 0} → (List ℕ → List R → Type 0) → (List ℕ → List R → Option C → Type 0) → ℕ
    → List ℕ → List R → InputEnd C → Type 0
Reads Settles Ends limit x rs Closed = (length x ≤ limit) × Ends x rs None
Reads Settles Ends limit x rs (Cut c) = (length x ≤ limit) × Ends x rs (Some c)
Reads Settles Ends limit x rs Past = (limit < length x) × Settles (take limit x) rs

-- The answer is the one that the whole input asks for, and all of its text is written. A fault of the outside and
-- want of memory are no answer to the input.
abbrev pub Answers : {C F : Type 0} → Ending F → InputEnd C → Run (Unit {0}) F → Option (List ℕ) → Option (List ℕ)
    → Type 0
Answers endings.Ok end o old new = (text : List ℕ) × (o ≡ going text tt) × (end ≢ Past) × Appends old new text
Answers (endings.Refused f) end o old new = (text : List ℕ) × (o ≡ broke text f) × Appends old new text
Answers endings.ReadFault end o old new = Unit {0}
Answers endings.WriteFault end o old new = Unit {0}
Answers endings.InputLimit end o old new = (text : List ℕ) × (o ≡ going text tt) × (end ≡ Past) × Appends old new text
Answers endings.NoMemory end o old new = Unit {0}

-- at most so many bytes were taken from a source
abbrev pub TakesAtMost : ℕ → Option (List ℕ) → Option (List ℕ) → Type 0
TakesAtMost n left left' = (taken : List ℕ) × (length taken ≤ n) × Consumes left left' taken

-- these bytes settle this text: that of the records they decide, none of which ends the run
pub record IsSettled {R K C F : Type 0} (m : Meaning R K C F) (Settles : List ℕ → List R → Type 0)
    (h text : List ℕ) : Type 0 where
  pub records : List R
  pub kept : K
  pub settled : Settles h records
  pub run : runs m (opened m) records ≡ going text kept

-- these bytes are refused behind this text
pub record IsRefused {R K C F : Type 0} (m : Meaning R K C F) (Settles : List ℕ → List R → Type 0)
    (h text : List ℕ) (refusal : F) : Type 0 where
  pub records : List R
  pub settled : Settles h records
  pub run : runs m (opened m) records ≡ broke text refusal
