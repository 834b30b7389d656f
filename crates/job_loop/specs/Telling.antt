-- What was written for a step of a job, by how the step went.
use Rattle.std.specs.Prelude.{◌≡◌, ◌≢◌, ℕ, List, [], take, Option}
use Rattle.std.specs.Io.KnownBytes.{Appends}
use Rattle.opus_io.specs.declared.sink.SinkStop.{SinkStop}
use Rattle.opus_io.specs.declared.sink.SinkStop.TheVariants.{Failed, NoMemory}
use Rattle.job_loop.specs.declared.job.JobStop.{JobStop}
use Rattle.job_loop.specs.declared.job.JobStop.TheVariants.{Refused, Sink}
use Rattle.job_loop.specs.declared.ending.Ending.{Ending}
use Rattle.job_loop.specs.declared.ending.Ending.TheVariants as endings
use Rattle.job_loop.specs.declared.input_end.InputEnd.{InputEnd}
use Rattle.job_loop.specs.declared.input_end.InputEnd.TheVariants.{Closed, Cut, Past}
use Rattle.job_loop.specs.Meaning.{Step, goes, stops, step_text}

-- a front of the text came to stand behind what stood there
pub record Front (text : List ℕ) (old new : Option (List ℕ)) : Type 0 where
  pub count : ℕ
  pub written : Appends old new (take count text)

-- the step goes on: its text was written, and what it keeps meets Stands
pub record Goes {K F : Type 0} (step : Step K F) (Stands : K → Type 0) (old new : Option (List ℕ)) : Type 0 where
  pub text : List ℕ
  pub kept : K
  pub step_is : step ≡ goes text kept
  pub stands : Stands kept
  pub written : Appends old new text

-- the step ends the run with this refusal, and its text was written
pub record Refuses {K F : Type 0} (refusal : F) (step : Step K F) (old new : Option (List ℕ)) : Type 0 where
  pub text : List ℕ
  pub step_is : step ≡ stops text refusal
  pub written : Appends old new text

-- a job stopped in this step; where the sink stopped it, a front of the step's text was written
abbrev pub Stops : {K F : Type 0} → JobStop F → Step K F → Option (List ℕ) → Option (List ℕ) → Type 0
Stops (Refused refusal) step old new = Refuses refusal step old new
Stops (Sink stop) step old new = Front (step_text step) old new

-- a run halts in this step, and what a sink held back for it is handed on at a refusal
abbrev pub Halts : {K F : Type 0} → Ending F → Step K F → Option (List ℕ) → Option (List ℕ) → List ℕ → Type 0
Halts endings.Ok step old new held = ⊥
Halts (endings.Refused refusal) step old new held = Refuses refusal step old new × (held ≡ [])
Halts endings.ReadFault step old new held = ⊥
Halts endings.WriteFault step old new held = Front (step_text step) old new
Halts endings.InputLimit step old new held = ⊥
Halts endings.NoMemory step old new held = Front (step_text step) old new

-- how a run ends that the sink stops
abbrev pub ending_of : {F : Type 0} → SinkStop → Ending F
ending_of Failed = endings.WriteFault
ending_of NoMemory = endings.NoMemory

-- how a run ends that nothing stops
abbrev pub over_of : {C F : Type 0} → InputEnd C → Ending F
over_of Closed = endings.Ok
over_of (Cut c) = endings.Ok
over_of Past = endings.InputLimit

-- how a run ends that is to be refused, once what was written before is handed on
abbrev pub Refusing : {F : Type 0} → F → Ending F → List ℕ → Type 0
Refusing refusal endings.Ok held = ⊥
Refusing refusal (endings.Refused r) held = (r ≡ refusal) × (held ≡ [])
Refusing refusal endings.ReadFault held = ⊥
Refusing refusal endings.WriteFault held = Unit {0}
Refusing refusal endings.InputLimit held = ⊥
Refusing refusal endings.NoMemory held = Unit {0}

-- the step at the end went on: its text was written, and nothing is kept back
pub record Done {F : Type 0} (step : Step (Unit {0}) F) (old new : Option (List ℕ)) (held : List ℕ) : Type 0 where
  pub text : List ℕ
  pub step_is : step ≡ goes text tt
  pub written : Appends old new text
  pub handed_on : held ≡ []

-- how the run ends at the end of the input, and what was written for it
abbrev pub Closes : {C F : Type 0} → Ending F → InputEnd C → Step (Unit {0}) F → Option (List ℕ) → Option (List ℕ)
    → List ℕ → Type 0
Closes endings.Ok end step old new held = Done step old new held × (end ≢ Past)
Closes (endings.Refused refusal) end step old new held = Refuses refusal step old new × (held ≡ [])
Closes endings.ReadFault end step old new held = ⊥
Closes endings.WriteFault end step old new held = Front (step_text step) old new
Closes endings.InputLimit end step old new held = Done step old new held × (end ≡ Past)
Closes endings.NoMemory end step old new held = Front (step_text step) old new
