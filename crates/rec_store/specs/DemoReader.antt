-- What the calls of an `opus_demo` store's reader answer.
use Rattle.std.specs.Prelude.{◌≡◌, ◌≢◌, ℕ, ◌+◌, ◌-◌, ◌≤◌, ◌<◌, List, [], length, take, min, Ok, Err, Some, None, Result}
use Rattle.std.specs.declared.option.Option.{Option}
use Rattle.std.specs.Io.KnownBytes.{Keeps, Consumes, IsAtEnd}
use Rattle.opus_io.specs.Cause.{Rose}
use Rattle.opus_io.specs.Reader.{ReaderState, coming}
use Rattle.rec_store.specs.DemoStore.{demo_head}
use Rattle.rec_store.specs.declared.demo.DemoHead.{DemoHead}
use Rattle.rec_store.specs.declared.stop.StoreFault.{StoreFault}
use Rattle.rec_store.specs.declared.stop.StoreFault.TheVariants.{StoreCut}
use Rattle.rec_store.specs.declared.stop.StoreStop.{StoreStop}
use Rattle.rec_store.specs.declared.stop.StoreStop.TheVariants.{Fault, Read, Limit, NoMemory}
use denote.Ref.{Bor}

-- these bytes came next and were passed, and no other byte is lost
pub record Passed (old new : ReaderState) (left left' : Option (List ℕ))
    (bytes : List ℕ) : Type 0 where
  pub consumed : Consumes (coming old left) (coming new left') bytes
  pub passed : new.passed ≡ old.passed + length bytes
  pub limit : new.limit ≡ old.limit
  pub in_limit : new.passed ≤ new.limit

-- the reader keeps nothing, and the source has nothing left
pub record NothingComes (new : ReaderState) (left' : Option (List ℕ)) : Type 0 where
  pub kept : new.bytes ≡ []
  pub end : IsAtEnd (coming new left')

-- a byte past the limit stands kept
pub record IsPastLimit (new : ReaderState) : Type 0 where
  pub all : new.passed ≡ new.limit
  pub more : 0 < length new.bytes

-- a front of a head, and not all of it, was passed
pub record PartPassed (old new : ReaderState) (left left' : Option (List ℕ)) : Type 0 where
  pub bytes : List ℕ
  pub passed : Passed old new left left' bytes
  pub short : length bytes < 8

-- the head was passed, and the last read gave a byte of it
pub record HeadRead (old new : ReaderState) (left left' : Option (List ℕ))
    (head : DemoHead) : Type 0 where
  pub passed : Passed old new left left' (demo_head head.len head.range)
  pub last_read : length new.bytes < 4096

-- the input ended before a head
pub record NoHead (old new : ReaderState) (left left' : Option (List ℕ)) : Type 0 where
  pub passed : Passed old new left left' []
  pub end : NothingComes new left'

-- the input ended inside a head; the fault's place is the input's end
pub record HeadCut (old new : ReaderState) (left left' : Option (List ℕ))
    (fault : StoreFault) : Type 0 where
  pub part : PartPassed old new left left'
  pub some : 0 < length part.bytes
  pub end : NothingComes new left'
  pub place : fault ≡ StoreCut new.passed

-- a read failed before the head was whole
pub record HeadFailed (old new : ReaderState) (left left' : Option (List ℕ)) : Type 0 where
  pub part : PartPassed old new left left'
  pub kept : new.bytes ≡ []

-- the limit came before the head was whole
pub record HeadPastLimit (old new : ReaderState) (left left' : Option (List ℕ)) : Type 0 where
  pub part : PartPassed old new left left'
  pub past : IsPastLimit new

-- what each answer of `next` means
abbrev pub DemoNext : ReaderState → ReaderState → Option (List ℕ) → Option (List ℕ)
    → Result (Option DemoHead) StoreStop → Type 0
DemoNext old new left left' (Ok (Some head)) = HeadRead old new left left' head
DemoNext old new left left' (Ok None) = NoHead old new left left'
DemoNext old new left left' (Err (Fault fault)) = HeadCut old new left left' fault
DemoNext old new left left' (Err Read) = HeadFailed old new left left'
DemoNext old new left left' (Err Limit) = HeadPastLimit old new left left'
DemoNext old new left left' (Err NoMemory) = ⊥

-- the payload's bytes that remain after `next`
abbrev pub left_after : Result (Option DemoHead) StoreStop → ℕ
left_after (Ok (Some head)) = head.len
left_after (Ok None) = 0
left_after (Err stop) = 0

-- the source's count of faults never falls, and changes only at Read
abbrev pub StoreCause : {T : Type 0} → ℕ → ℕ → Result T StoreStop → Type 0
StoreCause before now (Ok x) = now ≡ before
StoreCause before now (Err (Fault fault)) = now ≡ before
StoreCause before now (Err Read) = (before ≤ now) × Rose before now
StoreCause before now (Err Limit) = now ≡ before
StoreCause before now (Err NoMemory) = now ≡ before

-- the payload's bytes that come next, at least one where some remain
pub record PieceShown (remaining : ℕ) (new : ReaderState) (bytes : List ℕ) : Type 0 where
  pub is : bytes ≡ take (min remaining (new.limit - new.passed)) new.bytes
  pub some : 0 < remaining → 0 < length bytes
  pub most : length bytes ≤ remaining
  pub kept : length bytes ≤ length new.bytes
  pub in_limit : length bytes ≤ new.limit - new.passed

-- the input ended inside a payload; the fault's place is the input's end
pub record PayloadCut (remaining : ℕ) (new : ReaderState) (left' : Option (List ℕ))
    (fault : StoreFault) : Type 0 where
  pub some : 0 < remaining
  pub end : NothingComes new left'
  pub place : fault ≡ StoreCut new.passed

-- what each answer of `piece` means
abbrev pub PieceAnswer : ℕ → ReaderState → Option (List ℕ)
    → Result (Bor (List ℕ)) StoreStop → Type 0
PieceAnswer remaining new left' (Ok shown) = PieceShown remaining new shown.now
PieceAnswer remaining new left' (Err (Fault fault)) = PayloadCut remaining new left' fault
PieceAnswer remaining new left' (Err Read) = (0 < remaining) × (new.bytes ≡ [])
PieceAnswer remaining new left' (Err Limit) = (0 < remaining) × IsPastLimit new
PieceAnswer remaining new left' (Err NoMemory) = ⊥

-- A look at the payload passes nothing and loses nothing. It leaves the reader as it was where that keeps
-- bytes, and where no byte of the payload remains.
pub record PieceLooked (remaining : ℕ) (old new : ReaderState) (left left' : Option (List ℕ))
    (result : Result (Bor (List ℕ)) StoreStop) : Type 0 where
  pub passed : new.passed ≡ old.passed
  pub limit : new.limit ≡ old.limit
  pub coming : Keeps (coming old left) (coming new left')
  pub kept : old.bytes ≢ [] → new ≡ old
  pub done : remaining ≡ 0 → new ≡ old
  pub answer : PieceAnswer remaining new left' result
