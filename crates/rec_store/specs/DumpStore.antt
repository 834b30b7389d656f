-- A capture in the rtpdump layout: its first line, its head, its records, and how it is cut or goes wrong.
use Rattle.std.specs.Prelude.{◌≡◌, ℕ, ◌+◌, ◌^◌, ◌≤◌, ◌<◌, List, [], ◌++◌, length}
use Rattle.std.specs.List.{AllByRecursion, flat_map}
pub use Rattle.opus_io.specs.Bytes.{AreBytes}
use Rattle.std.specs.Int.{w16, w32, to_be_bytes}
use Rattle.rec_store.specs.Dump.{DumpRecord, IsDumpRecord, dump_record_bytes}
use Rattle.rec_store.specs.DumpLine.{IsDumpLine}
use Rattle.rec_store.specs.declared.dump_opening.DumpHead.{DumpHead}

-- The 16 bytes behind the first line: seconds, microseconds, address and port, and two bytes that may be anything.
pub record IsDumpHead (head : DumpHead) (bytes : List ℕ) : Type 0 where
  pub seconds : head.seconds < 2 ^ 32
  pub micros : head.micros < 2 ^ 32
  pub address : head.address < 2 ^ 32
  pub port : head.port < 2 ^ 16
  pub padding : List ℕ
  pub two : length padding ≡ 2
  pub spelled : bytes ≡ to_be_bytes w32 head.seconds ++ (to_be_bytes w32 head.micros
      ++ (to_be_bytes w32 head.address ++ (to_be_bytes w16 head.port ++ padding)))

-- what stands before the records: the first line and the head
pub record IsDumpOpening (head : DumpHead) (bytes : List ℕ) : Type 0 where
  pub line : List ℕ
  pub numbers : List ℕ
  pub is_line : IsDumpLine line
  pub is_head : IsDumpHead head numbers
  pub bytes_are : bytes ≡ line ++ numbers

-- the bytes are an opening, these records one after another, and a rest
pub record IsDumpFront (bytes : List ℕ) (head : DumpHead) (records : List DumpRecord) (rest : List ℕ) : Type 0 where
  pub opening : List ℕ
  pub is_opening : IsDumpOpening head opening
  pub are : AllByRecursion IsDumpRecord records
  pub parts : bytes ≡ opening ++ (flat_map dump_record_bytes records ++ rest)

-- a capture: its head and its records
abbrev pub IsDump : List ℕ → DumpHead → List DumpRecord → Type 0
IsDump bytes head records = IsDumpFront bytes head records []

-- a capture that is cut: no whole one, and some bytes behind it make it one
pub record IsStoreCut (bytes : List ℕ) : Type 0 where
  pub not_whole : (head : DumpHead) (records : List DumpRecord) → IsDump bytes head records → ⊥
  pub more : List ℕ
  pub head : DumpHead
  pub records : List DumpRecord
  pub whole : IsDump (bytes ++ more) head records

-- ---- parts

-- a front of an opening, and not all of it
pub record IsOpeningPart (bytes : List ℕ) : Type 0 where
  pub head : DumpHead
  pub more : List ℕ
  pub some : 1 ≤ length more
  pub whole : IsDumpOpening head (bytes ++ more)

-- a front of a record, and not all of it; it may be empty
pub record IsRecordPart (bytes : List ℕ) : Type 0 where
  pub part_of : DumpRecord
  pub is_record : IsDumpRecord part_of
  pub more : List ℕ
  pub some : 1 ≤ length more
  pub whole : dump_record_bytes part_of ≡ bytes ++ more

-- the bytes end within a record
pub record IsRecordCut (bytes : List ℕ) : Type 0 where
  pub head : DumpHead
  pub records : List DumpRecord
  pub rest : List ℕ
  pub front : IsDumpFront bytes head records rest
  pub part : IsRecordPart rest
  pub some : 1 ≤ length rest

-- a record's length, which counts its own eight bytes too, is below 8
pub record HasShortLength (bytes : List ℕ) : Type 0 where
  pub len : ℕ
  pub short : len < 8
  pub more : List ℕ
  pub bytes_are : bytes ≡ to_be_bytes w16 len ++ more

-- the record that begins at this place has a length below 8
pub record IsBadLength (bytes : List ℕ) (place : ℕ) : Type 0 where
  pub head : DumpHead
  pub records : List DumpRecord
  pub rest : List ℕ
  pub front : IsDumpFront bytes head records rest
  pub short : HasShortLength rest
  pub place_is : place + length rest ≡ length bytes
