-- What the calls of a capture's reader answer.
use Rattle.std.specs.Prelude.{◌≡◌, ℕ, ◌+◌, ◌≤◌, ◌<◌, Bool, true, false, List, [], length, Ok, Err, Some, None, Result}
use Rattle.std.specs.declared.option.Option.{Option}
use Rattle.opus_io.specs.Reader.{ReaderState}
use Rattle.rec_store.specs.Dump.{DumpRecord, IsDumpRecord, dump_record_bytes, packet_of_record}
use Rattle.rec_store.specs.DumpItem.{item_of}
use Rattle.rec_store.specs.DumpLine.{IsBadLine}
use Rattle.rec_store.specs.DumpStore.{IsDumpOpening, IsOpeningPart, IsRecordPart, HasShortLength}
use Rattle.rec_store.specs.DemoReader.{Passed, NothingComes, IsPastLimit}
use Rattle.rec_store.specs.declared.dump_item.DumpItem.{DumpItem}
use Rattle.rec_store.specs.declared.dump_opening.DumpHead.{DumpHead}
use Rattle.rec_store.specs.declared.stop.StoreFault.{StoreFault}
use Rattle.rec_store.specs.declared.stop.StoreFault.TheVariants.{StoreCut, DumpLine, DumpLength}
use Rattle.rec_store.specs.declared.stop.StoreStop.{StoreStop}
use Rattle.rec_store.specs.declared.stop.StoreStop.TheVariants.{Fault, Read, Limit, NoMemory}

-- a reader may be asked for more after a record, the end, or want of memory
abbrev pub is_live : {T : Type 0} → Result T StoreStop → Bool
is_live (Ok x) = true
is_live (Err (Fault fault)) = false
is_live (Err Read) = false
is_live (Err Limit) = false
is_live (Err NoMemory) = true

-- ---- the opening

-- the opening was passed, and the last read gave a byte of it
pub record OpeningRead (old new : ReaderState) (left left' : Option (List ℕ)) (head : DumpHead) : Type 0 where
  pub bytes : List ℕ
  pub passed : Passed old new left left' bytes
  pub is_opening : IsDumpOpening head bytes
  pub last_read : length new.bytes < 4096

-- a front of an opening was passed, and not all of it
pub record OpeningPassed (old new : ReaderState) (left left' : Option (List ℕ)) : Type 0 where
  pub bytes : List ℕ
  pub passed : Passed old new left left' bytes
  pub part : IsOpeningPart bytes

-- the input ended inside the opening, at this place
pub record OpeningCut (old new : ReaderState) (left left' : Option (List ℕ)) (place : ℕ) : Type 0 where
  pub front : OpeningPassed old new left left'
  pub end : NothingComes new left'
  pub place_is : place ≡ new.passed

-- The first line goes wrong at this place of the input. The bytes up to this one were passed, and the last read gave one
-- of them.
pub record LineBad (old new : ReaderState) (left left' : Option (List ℕ)) (place : ℕ) : Type 0 where
  pub bytes : List ℕ
  pub passed : Passed old new left left' bytes
  pub index : ℕ
  pub bad : IsBadLine bytes index
  pub last : index + 1 ≡ length bytes
  pub place_is : place ≡ old.passed + index
  pub last_read : length new.bytes < 4096

-- what each answer of `start` means
abbrev pub StartFault : StoreFault → ReaderState → ReaderState → Option (List ℕ) → Option (List ℕ) → Type 0
StartFault (StoreCut place) old new left left' = OpeningCut old new left left' place
StartFault (DumpLine place) old new left left' = LineBad old new left left' place
StartFault (DumpLength place) old new left left' = ⊥

abbrev pub StartStop : StoreStop → ReaderState → ReaderState → Option (List ℕ) → Option (List ℕ) → Type 0
StartStop (Fault fault) old new left left' = StartFault fault old new left left'
StartStop Read old new left left' = OpeningPassed old new left left' × (new.bytes ≡ [])
StartStop Limit old new left left' = OpeningPassed old new left left' × IsPastLimit new
StartStop NoMemory old new left left' = ⊥

abbrev pub DumpStart : ReaderState → ReaderState → Option (List ℕ) → Option (List ℕ)
    → Result DumpHead StoreStop → Type 0
DumpStart old new left left' (Ok head) = OpeningRead old new left left' head
DumpStart old new left left' (Err stop) = StartStop stop old new left left'

-- ---- a record

-- a record was passed, the last read gave a byte of it, and its packet is all that stands in `packet`
pub record RecordRead (old new : ReaderState) (left left' : Option (List ℕ)) (item : DumpItem) (packet : List ℕ)
    : Type 0 where
  pub told : DumpRecord
  pub is_record : IsDumpRecord told
  pub passed : Passed old new left left' (dump_record_bytes told)
  pub item_is : item ≡ item_of told
  pub packet_is : packet ≡ packet_of_record told
  pub last_read : length new.bytes < 4096

-- the input ended between two records
pub record NoRecord (old new : ReaderState) (left left' : Option (List ℕ)) (packet : List ℕ) : Type 0 where
  pub passed : Passed old new left left' []
  pub end : NothingComes new left'
  pub packet_is : packet ≡ []

-- a front of a record was passed, and not all of it
pub record RecordPassed (old new : ReaderState) (left left' : Option (List ℕ)) (packet : List ℕ) : Type 0 where
  pub bytes : List ℕ
  pub passed : Passed old new left left' bytes
  pub part : IsRecordPart bytes
  pub packet_is : packet ≡ []

-- the input ended inside a record, at this place
pub record RecordCut (old new : ReaderState) (left left' : Option (List ℕ)) (packet : List ℕ) (place : ℕ)
    : Type 0 where
  pub front : RecordPassed old new left left' packet
  pub some : 1 ≤ length front.bytes
  pub end : NothingComes new left'
  pub place_is : place ≡ new.passed

-- The record that begins at this place has a length below 8. The two bytes of the length were passed, and the last read
-- gave one of them.
pub record LengthBad (old new : ReaderState) (left left' : Option (List ℕ)) (packet : List ℕ) (place : ℕ)
    : Type 0 where
  pub bytes : List ℕ
  pub passed : Passed old new left left' bytes
  pub short : HasShortLength bytes
  pub two : length bytes ≡ 2
  pub place_is : place ≡ old.passed
  pub packet_is : packet ≡ []
  pub last_read : length new.bytes < 4096

-- nothing was read, and nothing stands in `packet`
pub record NoRoom (old new : ReaderState) (left left' : Option (List ℕ)) (packet : List ℕ) : Type 0 where
  pub same : new ≡ old
  pub left_is : left' ≡ left
  pub packet_is : packet ≡ []

-- what each answer of `next` means
abbrev pub NextFault : StoreFault → ReaderState → ReaderState → Option (List ℕ) → Option (List ℕ) → List ℕ → Type 0
NextFault (StoreCut place) old new left left' packet = RecordCut old new left left' packet place
NextFault (DumpLine place) old new left left' packet = ⊥
NextFault (DumpLength place) old new left left' packet = LengthBad old new left left' packet place

abbrev pub NextStop : StoreStop → ReaderState → ReaderState → Option (List ℕ) → Option (List ℕ) → List ℕ → Type 0
NextStop (Fault fault) old new left left' packet = NextFault fault old new left left' packet
NextStop Read old new left left' packet = RecordPassed old new left left' packet × (new.bytes ≡ [])
NextStop Limit old new left left' packet = RecordPassed old new left left' packet × IsPastLimit new
NextStop NoMemory old new left left' packet = NoRoom old new left left' packet

abbrev pub DumpNext : ReaderState → ReaderState → Option (List ℕ) → Option (List ℕ) → List ℕ
    → Result (Option DumpItem) StoreStop → Type 0
DumpNext old new left left' packet (Ok (Some item)) = RecordRead old new left left' item packet
DumpNext old new left left' packet (Ok None) = NoRecord old new left left' packet
DumpNext old new left left' packet (Err stop) = NextStop stop old new left left' packet
