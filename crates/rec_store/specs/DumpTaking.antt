-- How far the bytes of a capture were taken, which no public clause cites.
use Rattle.std.specs.Prelude.{◌≡◌, ◌⊎◌, ℕ, ◌<◌, List, [], ◌++◌, length, take, Ok, Err, Result}
use Rattle.std.specs.Int.{w16, w32, to_be_bytes}
use Rattle.std.specs.declared.option.Option.{Option}
use Rattle.opus_io.specs.Reader.{ReaderState}
use Rattle.opus_io.specs.declared.reader.InStop.{InStop}
use Rattle.opus_io.specs.declared.reader.InStop.TheVariants.{Read as ReadIn, Limit as LimitIn}
use Rattle.rec_store.specs.Dump.{DumpRecord, IsDumpRecord, dump_record_bytes, packet_of_record}
use Rattle.rec_store.specs.DumpItem.{item_of, TellsRecord}
use Rattle.rec_store.specs.DumpLine.{IsDumpLine}
use Rattle.rec_store.specs.DumpStore.{IsRecordPart}
use Rattle.rec_store.specs.DemoReader.{Passed, NothingComes, IsPastLimit}
use Rattle.rec_store.specs.DumpReader.{StartStop, NextFault, RecordPassed, DumpNext}
use Rattle.rec_store.specs.declared.dump_item.DumpItem.{DumpItem}
use Rattle.rec_store.specs.declared.dump_item.DumpRecordHead.{DumpRecordHead}
use Rattle.rec_store.specs.declared.stop.StoreFault.{StoreFault}
use Rattle.rec_store.specs.declared.stop.StoreFault.TheVariants.{StoreCut, DumpLine, DumpLength}
use Rattle.rec_store.specs.declared.stop.StoreStop.{StoreStop}
use Rattle.rec_store.specs.declared.stop.StoreStop.TheVariants.{Fault, Read, Limit, NoMemory}

-- a look's stop as a store's
abbrev pub stop_of : InStop → StoreStop
stop_of ReadIn = Read
stop_of LimitIn = Limit

-- the first line was passed, and the last read gave a byte of it
pub record LineRead (old new : ReaderState) (left left' : Option (List ℕ)) : Type 0 where
  pub bytes : List ℕ
  pub passed : Passed old new left left' bytes
  pub is_line : IsDumpLine bytes
  pub last_read : length new.bytes < 4096

abbrev pub LineTaken : ReaderState → ReaderState → Option (List ℕ) → Option (List ℕ)
    → Result (Unit {0}) StoreStop → Type 0
LineTaken old new left left' (Ok done) = LineRead old new left left'
LineTaken old new left left' (Err stop) = StartStop stop old new left left'

-- ---- a record whose first bytes, `came`, were passed before

-- the rest of it was passed
pub record RestRead (old new : ReaderState) (left left' : Option (List ℕ)) (came : List ℕ) (item : DumpItem)
    (packet : List ℕ) : Type 0 where
  pub told : DumpRecord
  pub is_record : IsDumpRecord told
  pub bytes : List ℕ
  pub passed : Passed old new left left' bytes
  pub bytes_are : dump_record_bytes told ≡ came ++ bytes
  pub item_is : item ≡ item_of told
  pub packet_is : packet ≡ packet_of_record told
  pub last_read : length new.bytes < 4096

-- some more bytes of it were passed
pub record RestPassed (old new : ReaderState) (left left' : Option (List ℕ)) (came : List ℕ) : Type 0 where
  pub bytes : List ℕ
  pub passed : Passed old new left left' bytes
  pub part : IsRecordPart (came ++ bytes)

abbrev pub RestFault : StoreFault → ReaderState → ReaderState → Option (List ℕ) → Option (List ℕ) → List ℕ → Type 0
RestFault (StoreCut place) old new left left' came =
    RestPassed old new left left' came × NothingComes new left' × (place ≡ new.passed)
RestFault (DumpLine place) old new left left' came = ⊥
RestFault (DumpLength place) old new left left' came = ⊥

abbrev pub RestStop : StoreStop → ReaderState → ReaderState → Option (List ℕ) → Option (List ℕ) → List ℕ → Type 0
RestStop (Fault fault) old new left left' came = RestFault fault old new left left' came
RestStop Read old new left left' came = RestPassed old new left left' came × (new.bytes ≡ [])
RestStop Limit old new left left' came = RestPassed old new left left' came × IsPastLimit new
RestStop NoMemory old new left left' came = ⊥

abbrev pub RestTaken : ReaderState → ReaderState → Option (List ℕ) → Option (List ℕ) → List ℕ → List ℕ
    → Result DumpItem StoreStop → Type 0
RestTaken old new left left' came packet (Ok item) = RestRead old new left left' came item packet
RestTaken old new left left' came packet (Err stop) = RestStop stop old new left left' came

-- ---- a record whose head was passed before

-- the eight bytes of a head
abbrev pub head_bytes : DumpRecordHead → List ℕ
head_bytes head =
    to_be_bytes w16 head.length ++ to_be_bytes w16 head.packet_length ++ to_be_bytes w32 head.offset

-- what the record keeps was passed
pub record KeptRead (old new : ReaderState) (left left' : Option (List ℕ)) (head : List ℕ) (item : DumpItem)
    (packet : List ℕ) : Type 0 where
  pub bytes : List ℕ
  pub size : ℕ
  pub passed : Passed old new left left' bytes
  pub tells : TellsRecord (head ++ bytes) item size
  pub packet_is : packet ≡ take size bytes
  pub last_read : (length new.bytes < 4096) ⊎ (new ≡ old)

abbrev pub KeptTaken : ReaderState → ReaderState → Option (List ℕ) → Option (List ℕ) → List ℕ → List ℕ
    → Result DumpItem StoreStop → Type 0
KeptTaken old new left left' head packet (Ok item) = KeptRead old new left left' head item packet
KeptTaken old new left left' head packet (Err stop) = RestStop stop old new left left' head

-- ---- a record, whose packet's bytes are cleared where it stops

abbrev pub RecordStop : StoreStop → ReaderState → ReaderState → Option (List ℕ) → Option (List ℕ) → Type 0
RecordStop (Fault fault) old new left left' = NextFault fault old new left left' []
RecordStop Read old new left left' = RecordPassed old new left left' [] × (new.bytes ≡ [])
RecordStop Limit old new left left' = RecordPassed old new left left' [] × IsPastLimit new
RecordStop NoMemory old new left left' = ⊥

abbrev pub RecordTaken : ReaderState → ReaderState → Option (List ℕ) → Option (List ℕ) → List ℕ
    → Result (Option DumpItem) StoreStop → Type 0
RecordTaken old new left left' packet (Ok item) = DumpNext old new left left' packet (Ok item)
RecordTaken old new left left' packet (Err stop) = RecordStop stop old new left left'
