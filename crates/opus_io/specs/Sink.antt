-- What a write does to a sink's two counts: its faults and its refused growths.
use Rattle.std.specs.Prelude.{◌≡◌, ℕ, ◌≤◌, List, Option, Result, OnOk, IsErrOf}
use Rattle.std.specs.Io.KnownBytes.{Appends}
use Rattle.opus_io.specs.Cause.{Rose}
use Rattle.opus_io.specs.declared.sink.SinkStop.{SinkStop}
use Rattle.opus_io.specs.declared.sink.SinkStop.TheVariants.{Failed, NoMemory}

-- both counts never fall; each rose where the result names it; only Failed changes the faults
pub record SinkCause {T : Type 0} (faults faults' refusals refusals' : ℕ)
    (result : Result T SinkStop) : Type 0 where
  pub later : faults ≤ faults'
  pub still : OnOk result (faults' ≡ faults)
  pub spared : IsErrOf result NoMemory → faults' ≡ faults
  pub failed : IsErrOf result Failed → Rose faults faults'
  pub later_refused : refusals ≤ refusals'
  pub refused : IsErrOf result NoMemory → Rose refusals refusals'

-- told bytes stay, and others may have come behind them
abbrev pub Grew : Option (List ℕ) → Option (List ℕ) → Type 0
Grew old new = (more : List ℕ) × Appends old new more

-- a sink that goes on to another one goes on to the same one, and handed on more bytes or none
pub record Onward (onto onto' : ℕ) (handed handed' : Option (List ℕ)) : Type 0 where
  pub same : onto' ≡ onto
  pub grew : Grew handed handed'
