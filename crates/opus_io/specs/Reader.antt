-- The reader as a value, and what a look ahead does.
use Rattle.std.specs.Prelude.{◌≡◌, ◌≢◌, ℕ, ◌+◌, ◌-◌, ◌^◌, ◌≤◌, ◌<◌, List, [], length, take, Some, Result, IfOk, OnOk, IsErrOf}
use Rattle.std.specs.declared.option.Option.{Option}
use Rattle.std.specs.Io.KnownBytes.{Keeps, IsAtEnd, prepend_known}
use Rattle.opus_io.specs.Cause.{Rose}
use Rattle.opus_io.specs.declared.reader.InStop.{InStop}
use Rattle.opus_io.specs.declared.reader.InStop.TheVariants.{Read, Limit}
use denote.Ref.{Bor}

-- the bytes taken and not passed, how many were passed, how many may be, and those that were passed last
pub record ReaderState : Type 0 where
  pub bytes : List ℕ
  pub passed : ℕ
  pub limit : ℕ
  pub last : List ℕ

-- what comes next: what the reader keeps, and then what the source has left
abbrev pub coming : ReaderState → Option (List ℕ) → Option (List ℕ)
coming k left = prepend_known k.bytes left

-- most bytes of an input: this project's limit
abbrev pub max_input : ℕ
max_input = 2 ^ 40

-- what every reader's fields meet: the bytes passed last and those kept lie in the buffer, and at most one is
-- past the limit
pub record Fits (room start end last passed limit : ℕ) : Type 0 where
  pub size : room ≡ 4096
  pub behind : last ≤ start
  pub ordered : start ≤ end
  pub in_buffer : end ≤ 4096
  pub in_limit : passed ≤ limit
  pub one_past : passed + (end - start) ≤ limit + 1
  pub most : limit ≤ max_input

-- a look ahead passes nothing, loses nothing, and leaves kept bytes alone; where it read, what was passed last is gone
pub record Stays (old new : ReaderState) (left left' : Option (List ℕ)) : Type 0 where
  pub passed : new.passed ≡ old.passed
  pub limit : new.limit ≡ old.limit
  pub coming : Keeps (coming old left) (coming new left')
  pub kept : old.bytes ≢ [] → new ≡ old
  pub in_buffer : length new.bytes ≤ 4096
  pub in_limit : new.passed ≤ new.limit
  pub one_past : new.passed + length new.bytes ≤ new.limit + 1
  pub last : old.bytes ≡ [] → new.last ≡ []

-- the reader keeps a byte, or the source is at its end, or a read failed
pub record Filled (old new : ReaderState) (left left' : Option (List ℕ))
    (result : Result (Unit {0}) InStop) : Type 0 where
  pub stays : Stays old new left left'
  pub end : OnOk result (new.bytes ≡ [] → IsAtEnd left')
  pub no_limit : IsErrOf result Limit → ⊥
  pub fault : IsErrOf result Read → (old.bytes ≡ []) × (new.bytes ≡ [])

-- what a look ahead shows, and when it stops
pub record Looked (old new : ReaderState) (left left' : Option (List ℕ))
    (result : Result (Bor (List ℕ)) InStop) : Type 0 where
  pub stays : Stays old new left left'
  pub shown : IfOk result (λ s. s.now ≡ take (new.limit - new.passed) new.bytes)
  pub end : IfOk result (λ s. s.now ≡ [] → (new.bytes ≡ []) × IsAtEnd left')
  pub nothing : coming old left ≡ Some [] → IfOk result (λ s. s.now ≡ [])
  pub past : IsErrOf result Limit → (new.passed ≡ new.limit) × (0 < length new.bytes)
  pub stops : new.passed ≡ new.limit → 0 < length new.bytes → IsErrOf result Limit
  pub fault : IsErrOf result Read → new.bytes ≡ []

-- how many bytes a look shows, and when it stops
pub record LookedAt (old new : ReaderState) (left left' : Option (List ℕ)) (result : Result ℕ InStop) : Type 0 where
  pub stays : Stays old new left left'
  pub shown : IfOk result (λ n. n ≡ length (take (new.limit - new.passed) new.bytes))
  pub end : IfOk result (λ n. n ≡ 0 → (new.bytes ≡ []) × IsAtEnd left')
  pub past : IsErrOf result Limit → (new.passed ≡ new.limit) × (0 < length new.bytes)
  pub stops : new.passed ≡ new.limit → 0 < length new.bytes → IsErrOf result Limit
  pub fault : IsErrOf result Read → new.bytes ≡ []

-- a look's stops and the source's count of faults: it never falls, and changes only at Read
pub record LookCause {T : Type 0} (before now : ℕ) (result : Result T InStop) : Type 0 where
  pub later : before ≤ now
  pub still : OnOk result (now ≡ before)
  pub spared : IsErrOf result Limit → now ≡ before
  pub failed : IsErrOf result Read → Rose before now
