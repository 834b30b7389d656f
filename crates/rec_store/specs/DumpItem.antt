-- What is told of a record of a capture.
use Rattle.std.specs.Prelude.{◌≡◌, ℕ, ◌^◌, ◌≤◌, ◌<◌, ◌==◌, nat_lt, if◌then◌else◌, List, length, take, min}
use Rattle.std.specs.Int.{w16, to_be_bytes}
use Rattle.rec_store.specs.Dump.{DumpRecord, IsDumpRecord, dump_record_bytes}
use Rattle.rec_store.specs.declared.dump_item.DumpItem.{DumpItem}
use Rattle.rec_store.specs.declared.dump_item.DumpKind.{DumpKind}
use Rattle.rec_store.specs.declared.dump_item.DumpKind.TheVariants.{Rtp, Cut, Rtcp}

-- RTCP tells no packet length, and of a cut packet fewer bytes were kept than it had
abbrev pub kind_of : ℕ → ℕ → DumpKind
kind_of packet_length kept =
    if packet_length == 0 then Rtcp else (if nat_lt kept packet_length then Cut else Rtp)

-- how many of the bytes kept are the packet's
abbrev pub packet_size : ℕ → ℕ → ℕ
packet_size packet_length kept = if packet_length == 0 then kept else min packet_length kept

-- when the packet came, and its kind
abbrev pub item_of : DumpRecord → DumpItem
item_of r = record { offset = r.offset; kind = kind_of r.packet_length (length r.kept) }

-- the bytes begin with their own number, eight at least: they are a record
pub record IsOwnLength (bytes : List ℕ) : Type 0 where
  pub long : 8 ≤ length bytes
  pub fits : length bytes < 2 ^ 16
  pub own : to_be_bytes w16 (length bytes) ≡ take 2 bytes

-- the bytes are a record, and this is told of it
pub record TellsRecord (bytes : List ℕ) (item : DumpItem) (size : ℕ) : Type 0 where
  pub told : DumpRecord
  pub is_record : IsDumpRecord told
  pub bytes_are : bytes ≡ dump_record_bytes told
  pub item_is : item ≡ item_of told
  pub size_is : size ≡ packet_size told.packet_length (length told.kept)
