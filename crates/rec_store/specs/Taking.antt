-- How far bytes of a store were taken, which no public clause cites.
use Rattle.std.specs.Prelude.{◌≡◌, ◌⊎◌, ℕ, ◌≤◌, ◌<◌, List, [], ◌++◌, length, Ok, Err, Result}
use Rattle.std.specs.declared.option.Option.{Option}
use Rattle.opus_io.specs.Reader.{ReaderState}
use Rattle.opus_io.specs.declared.reader.InStop.{InStop}
use Rattle.opus_io.specs.declared.reader.InStop.TheVariants.{Read, Limit}
use Rattle.rec_store.specs.DumpStore.{AreBytes}
use Rattle.rec_store.specs.DemoReader.{Passed, NothingComes, IsPastLimit}

-- these bytes were passed, `most` or as many as there are, and not one was read ahead once they were that many
pub record Took (most : ℕ) (old new : ReaderState) (left left' : Option (List ℕ)) (bytes : List ℕ) : Type 0 where
  pub passed : Passed old new left left' bytes
  pub fits : length bytes ≤ most
  pub last_read : (length new.bytes < 4096) ⊎ (new ≡ old)
  pub end : length bytes < most → NothingComes new left'

-- these bytes were passed, fewer than `most`, and a look stopped behind them
pub record TookPart (most : ℕ) (old new : ReaderState) (left left' : Option (List ℕ)) (bytes : List ℕ) : Type 0 where
  pub passed : Passed old new left left' bytes
  pub short : length bytes < most

-- what each answer means of a call that takes bytes
abbrev pub Takes : ℕ → ReaderState → ReaderState → Option (List ℕ) → Option (List ℕ) → List ℕ
    → Result (Unit {0}) InStop → Type 0
Takes most old new left left' bytes (Ok done) = Took most old new left left' bytes
Takes most old new left left' bytes (Err Read) = TookPart most old new left left' bytes × (new.bytes ≡ [])
Takes most old new left left' bytes (Err Limit) = TookPart most old new left left' bytes × IsPastLimit new

-- the same of a call that puts the bytes behind others
pub record TakesBehind (most : ℕ) (old new : ReaderState) (left left' : Option (List ℕ)) (before now : List ℕ)
    (result : Result (Unit {0}) InStop) : Type 0 where
  pub bytes : List ℕ
  pub items : now ≡ before ++ bytes
  pub are : AreBytes bytes
  pub takes : Takes most old new left left' bytes result
