-- What a record of a capture is to a receiver of one stream: an arrival, or nothing that it takes. The choice of the stream
-- and the order of the tests are this project's.
use Rattle.std.specs.Prelude.{ℕ, Bool, true, ◌&&◌, ◌==◌, if◌then◌else◌, is_some, List, Option, None, Some}
use Rattle.opus_feed.specs.declared.framing.Framing.TheVariants.{Whole}
use Rattle.pack_records.specs.Lent.{lent_value}
use Rattle.rec_store.specs.declared.dump_item.DumpKind.{DumpKind}
use Rattle.rec_store.specs.declared.dump_item.DumpKind.TheVariants as kinds
use Rattle.rtp_packet.specs.RtpValue.{RtpValue}
use Rattle.rtp_packet.specs.RtpFault.{rtp_fault}
use Rattle.rtp_packet.specs.Checks.{rtp_in}
use Rattle.rtp_packet.specs.declared.fault.RtpFault.{RtpFault}
use Rattle.rtp_ends.specs.Numbers.{Heard}
use Rattle.net_jobs.specs.declared.stream.Stream.{Stream}
use Rattle.net_jobs.specs.declared.stream.Asked.{Asked}
use Rattle.net_jobs.specs.declared.stream.Passed.{Passed}
use Rattle.net_jobs.specs.declared.stream.Passed.TheVariants as sorts

-- a record that is passed over: of RTCP, cut, no packet, or of another stream; or one more packet of the stream
pub data RecordSort : Type 0 where
  passes : Passed → RecordSort
  arrives : Stream → Heard → RecordSort

abbrev pub stream_of : RtpValue → Stream
stream_of p = record { payload_type = p.payload_type; ssrc = p.ssrc }

abbrev pub heard_of : RtpValue → Heard
heard_of p = record { seq = p.seq; stamp = p.stamp; payload = p.payload }

-- a number is asked for, or any
abbrev pub is_asked : Option ℕ → ℕ → Bool
is_asked None n = true
is_asked (Some asked) n = asked == n

abbrev pub is_same : Stream → Stream → Bool
is_same a b = (a.payload_type == b.payload_type) && (a.ssrc == b.ssrc)

-- it is the stream that was chosen, if one was
abbrev pub is_chosen : Option Stream → Stream → Bool
is_chosen None s = true
is_chosen (Some chosen) s = is_same chosen s

-- a packet of this stream is taken
abbrev pub is_wanted : Asked → Option Stream → Stream → Bool
is_wanted asked chosen s =
    is_asked asked.payload_type s.payload_type && is_asked asked.ssrc s.ssrc && is_chosen chosen s

-- the payload is one undelimited packet (RFC 7587, 4.2; RFC 6716, 3)
abbrev pub is_packet : List ℕ → Bool
is_packet payload = is_some (lent_value Whole payload)

abbrev pub arrival_of : RtpValue → RecordSort
arrival_of p = arrives (stream_of p) (heard_of p)

abbrev pub packet_sort : Asked → Option Stream → RtpValue → RecordSort
packet_sort asked chosen p =
    if is_wanted asked chosen (stream_of p)
    then (if is_packet p.payload then arrival_of p else passes sorts.Bad)
    else passes sorts.Other

-- by the first check of an RTP packet that fails, if any does (RFC 3550, 5.1)
abbrev pub rtp_sort : Asked → Option Stream → List ℕ → Option RtpFault → RecordSort
rtp_sort asked chosen bytes (Some fault) = passes sorts.Bad
rtp_sort asked chosen bytes None = packet_sort asked chosen (rtp_in bytes)

-- what a record is, whose packet has these bytes, where this stream was chosen before
unfoldable pub record_sort : Asked → Option Stream → DumpKind → List ℕ → RecordSort
record_sort asked chosen kinds.Rtcp bytes = passes sorts.Rtcp
record_sort asked chosen kinds.Cut bytes = passes sorts.Cut
record_sort asked chosen kinds.Rtp bytes = rtp_sort asked chosen bytes (rtp_fault bytes)
