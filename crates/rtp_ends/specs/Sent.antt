-- The packets that are sent (RFC 3550, 5.1; RFC 7587, 4.1). A record is a packet that is sent, or None for one that is lost
-- and takes a number and time, but no packet.
use Rattle.std.specs.Prelude.{ℕ, ◌+◌, ◌%◌, List, [], ◌∷◌, ◌++◌, length, sum, Option, None, Some, false}
use Rattle.opus_packet.specs.Value.{PacketValue, duration_of}
use Rattle.opus_packet.specs.Canonical.{canonical}
use Rattle.rtp_packet.specs.RtpRead.{plain_bytes}
use Rattle.rtp_packet.specs.declared.packet.RtpFields.{RtpFields}

-- Samples at 48 kHz by which a record raises the timestamp: a packet by its duration, and a lost one as the record before it
-- did.
abbrev pub raise_of : ℕ → Option PacketValue → ℕ
raise_of before (Some v) = duration_of v
raise_of before None = before

-- the raises of records, one after the other
abbrev pub raises_after : ℕ → List (Option PacketValue) → List ℕ
raises_after before [] = []
raises_after before (r ∷ rs) = raise_of before r ∷ raises_after (raise_of before r) rs

-- and the last one of them
abbrev pub last_raise : ℕ → List (Option PacketValue) → ℕ
last_raise before [] = before
last_raise before (r ∷ rs) = last_raise (raise_of before r) rs

-- lost packets before the first one that is sent raise it by nothing
abbrev pub elapsed_in : List (Option PacketValue) → ℕ
elapsed_in records = sum (raises_after 0 records)

-- the fields of the first packet, whose marker is 0
abbrev pub first_fields : ℕ → ℕ → ℕ → ℕ → RtpFields
first_fields seq stamp ssrc payload_type = record {
  marker = false;
  payload_type = payload_type;
  seq = seq;
  stamp = stamp;
  ssrc = ssrc;
}

-- The fields of the packet behind these records: each of them raises the sequence number by one, modulo 2^16, and the
-- timestamp, modulo 2^32, by its raise.
abbrev pub fields_behind : RtpFields → List (Option PacketValue) → RtpFields
fields_behind first records = record {
  marker = false;
  payload_type = first.payload_type;
  seq = (first.seq + length records) % 65536;
  stamp = (first.stamp + elapsed_in records) % 4294967296;
  ssrc = first.ssrc;
}

-- the bytes of the packet behind these records: its payload is the canonical form
abbrev pub packet_bytes : RtpFields → List (Option PacketValue) → PacketValue → List ℕ
packet_bytes first records v = plain_bytes (fields_behind first records) (canonical v)

-- the packet of one record behind these ones, and none where it is lost
abbrev pub packets_of : RtpFields → List (Option PacketValue) → Option PacketValue → List (List ℕ)
packets_of first records (Some v) = packet_bytes first records v ∷ []
packets_of first records None = []

-- the packets of more records behind these ones
abbrev pub packets_behind : RtpFields → List (Option PacketValue) → List (Option PacketValue) → List (List ℕ)
packets_behind first records [] = []
packets_behind first records (r ∷ rs) = packets_of first records r ++ packets_behind first (records ++ r ∷ []) rs

-- the packets of all records, of which the first has these fields
abbrev pub packets_sent : RtpFields → List (Option PacketValue) → List (List ℕ)
packets_sent first records = packets_behind first [] records
