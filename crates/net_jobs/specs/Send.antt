-- The job send: a sender is given the packets of a store, and what it sends is written as a capture in the rtpdump layout.
use Rattle.std.specs.Prelude.{ℕ, ◌^◌, if◌then◌else◌, nat_lt, List, [], ◌∷◌, ◌++◌, length, Option, None}
use Rattle.job_loop.specs.Shown.{Shown}
use Rattle.job_loop.specs.Meaning.{Meaning, Step, goes, stops}
use Rattle.job_loop.specs.declared.input_end.InputEnd.{InputEnd}
use Rattle.job_loop.specs.declared.input_end.InputEnd.TheVariants as ends
use Rattle.opus_packet.specs.Value.{PacketValue}
use Rattle.rec_store.specs.Dump.{dump_head_bytes}
use Rattle.rtp_packet.specs.declared.packet.RtpFields.{RtpFields}
use Rattle.pack_records.specs.declared.cut.Cut.{Cut}
use Rattle.pack_records.specs.declared.item.Found.{Found}
use Rattle.pack_records.specs.declared.item.Found.TheVariants.{Packet, Lost, Bad}
use Rattle.pack_records.specs.declared.item.Item.{Item}
use Rattle.pack_records.specs.Lent.{lent_value}
use Rattle.pack_jobs.specs.declared.refusal.Why.TheVariants.{StoreCut}
use Rattle.pack_jobs.specs.Refusal.{refusal_at, Refusal}
use Rattle.job_ends.specs.Refusal.{refusal_of}
use Rattle.net_jobs.specs.Capture.{record_text}

-- what the sender is given of a record: the packet that its bytes spell, or None where it is lost
abbrev pub given_of : Found → List ℕ → Option PacketValue
given_of (Packet framing shape size) bytes = lent_value framing bytes
given_of Lost bytes = None
given_of (Bad fault) bytes = None

-- so many records a sender takes; no input within the limit has more
abbrev pub most_records : ℕ
most_records = 2 ^ 40

-- `records` were given before, and now this one is
abbrev pub send_given : RtpFields → List (Option PacketValue) → Option PacketValue
    → Step (List (Option PacketValue)) Refusal
send_given first records given =
    if nat_lt (length records) most_records
    then goes (record_text first records given) (records ++ given ∷ [])
    else goes [] records

abbrev pub send_found : RtpFields → List (Option PacketValue) → Shown Item → Found
    → Step (List (Option PacketValue)) Refusal
send_found first records r (Packet framing shape size) =
    send_given first records (given_of (Packet framing shape size) r.bytes)
send_found first records r Lost = send_given first records None
send_found first records r (Bad fault) = stops [] (refusal_at (length records) r.item fault)

abbrev pub send_end : List (Option PacketValue) → InputEnd Cut → Step (Unit {0}) Refusal
send_end records ends.Closed = goes [] tt
send_end records (ends.Cut cut) = stops [] (refusal_of (length records) cut.place StoreCut)
send_end records ends.Past = goes [] tt

-- It keeps what the sender was given. The line and the head of the capture stand first, whatever follows.
abbrev pub send : RtpFields → Meaning (Shown Item) (List (Option PacketValue)) Cut Refusal
send first = record {
  opening = dump_head_bytes;
  start = [];
  step = λ records r. send_found first records r r.item.found;
  finish = send_end;
}
