-- The capture in the rtpdump layout: a first line, 16 bytes that tell when and where it was made, and records one after
-- another, each with its length, the packet's length, the milliseconds since the capture began, and bytes. Numbers have
-- the highest byte first.
use Rattle.std.specs.Prelude.{◌≡◌, ℕ, ◌+◌, ◌^◌, ◌<◌, ◌==◌, if◌then◌else◌, List, [], ◌∷◌, ◌++◌, length, take, replicate}
use Rattle.std.specs.Int.{w16, w32, to_be_bytes}

-- `#!rtpplay1.0 `, with which each capture begins
abbrev pub dump_mark : List ℕ
dump_mark = 35 ∷ 33 ∷ 114 ∷ 116 ∷ 112 ∷ 112 ∷ 108 ∷ 97 ∷ 121 ∷ 49 ∷ 46 ∷ 48 ∷ 32 ∷ []

-- the first line that is written: the mark, address and port `0.0.0.0/0`, and a newline
abbrev pub dump_line : List ℕ
dump_line = dump_mark ++ 48 ∷ 46 ∷ 48 ∷ 46 ∷ 48 ∷ 46 ∷ 48 ∷ 47 ∷ 48 ∷ 10 ∷ []

-- what is written before all records: seconds, microseconds, address, port and two bytes of padding are all 0
abbrev pub dump_head_bytes : List ℕ
dump_head_bytes = dump_line ++ replicate 16 0

-- A record: how many bytes the packet had, or 0 for RTCP, when it came, in milliseconds since the capture began, and the
-- bytes that were kept, which may be fewer or more.
pub record DumpRecord : Type 0 where
  pub packet_length : ℕ
  pub offset : ℕ
  pub kept : List ℕ

-- a record whose numbers fit their bits, the record's length too, which counts the eight bytes before the kept ones
pub record IsDumpRecord (r : DumpRecord) : Type 0 where
  pub packet_length : r.packet_length < 2 ^ 16
  pub offset : r.offset < 2 ^ 32
  pub length_fits : 8 + length r.kept < 2 ^ 16

-- the eight bytes before so many kept bytes: the record's length, which counts them too, the packet's, and the offset
abbrev pub dump_record_head : ℕ → ℕ → ℕ → List ℕ
dump_record_head size packet_length offset =
    to_be_bytes w16 (8 + size) ++ to_be_bytes w16 packet_length ++ to_be_bytes w32 offset

-- the one spelling of a record
abbrev pub dump_record_bytes : DumpRecord → List ℕ
dump_record_bytes r = dump_record_head (length r.kept) r.packet_length r.offset ++ r.kept

-- a record of RTCP tells no packet length
abbrev pub IsRtcp : DumpRecord → Type 0
IsRtcp r = r.packet_length ≡ 0

-- fewer bytes were kept than the packet had
abbrev pub IsCut : DumpRecord → Type 0
IsCut r = length r.kept < r.packet_length

-- The packet's bytes in a record: all bytes of RTCP, what there is of a cut packet, and otherwise as many as the packet's
-- length tells. What follows them is passed over.
abbrev pub packet_of_record : DumpRecord → List ℕ
packet_of_record r = if r.packet_length == 0 then r.kept else take r.packet_length r.kept

-- the record of a whole packet
abbrev pub record_of_packet : ℕ → List ℕ → DumpRecord
record_of_packet offset packet = record { packet_length = length packet; offset = offset; kept = packet }
