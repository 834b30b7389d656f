-- The capture of what a sender sends: the RTP packets of its records, in the rtpdump layout. A packet's offset is the time
-- that the records before it last.
use Rattle.std.specs.Prelude.{ℕ, ◌/◌, ◌%◌, List, [], ◌∷◌, ◌++◌, Option, None, Some, flat_map}
use Rattle.opus_packet.specs.Value.{PacketValue}
use Rattle.rec_store.specs.Dump.{DumpRecord, dump_head_bytes, dump_record_bytes, record_of_packet}
use Rattle.rtp_packet.specs.declared.packet.RtpFields.{RtpFields}
use Rattle.rtp_ends.specs.Sent.{elapsed_in, packet_bytes}

-- milliseconds that records last, rounded down, modulo 2^32: one has 48 samples
abbrev pub offset_behind : List (Option PacketValue) → ℕ
offset_behind records = (elapsed_in records / 48) % 4294967296

-- the capture's record of a packet behind these records
abbrev pub captured_packet : RtpFields → List (Option PacketValue) → PacketValue → DumpRecord
captured_packet first records v = record_of_packet (offset_behind records) (packet_bytes first records v)

-- and of one record behind them: none where it is lost
abbrev pub captured : RtpFields → List (Option PacketValue) → Option PacketValue → List DumpRecord
captured first records (Some v) = captured_packet first records v ∷ []
captured first records None = []

-- the capture's records of more records behind these ones
abbrev pub captured_behind : RtpFields → List (Option PacketValue) → List (Option PacketValue) → List DumpRecord
captured_behind first records [] = []
captured_behind first records (r ∷ rs) = captured first records r ++ captured_behind first (records ++ r ∷ []) rs

-- and of all records
abbrev pub captured_records : RtpFields → List (Option PacketValue) → List DumpRecord
captured_records first records = captured_behind first [] records

-- the capture of all records: the line and the head, and then its records
abbrev pub capture_of : RtpFields → List (Option PacketValue) → List ℕ
capture_of first records = dump_head_bytes ++ flat_map dump_record_bytes (captured_records first records)

-- the bytes of the capture's record of a packet, and of one record, behind these records
unfoldable pub packet_text : RtpFields → List (Option PacketValue) → PacketValue → List ℕ
packet_text first records v = dump_record_bytes (captured_packet first records v)

abbrev pub record_text : RtpFields → List (Option PacketValue) → Option PacketValue → List ℕ
record_text first records (Some v) = packet_text first records v
record_text first records None = []
