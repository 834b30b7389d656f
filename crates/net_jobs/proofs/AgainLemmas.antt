-- What is sent of a store is received again.
use Rattle.std.proofs.Common.{◌≡◌, inl, inr, ℕ, ◌+◌, ◌≤◌, ◌==◌, ◌&&◌, true, if◌then◌else◌, List, [], ◌∷◌, ◌++◌, length, take, take_all, replicate, map, is_some, Option, None, Some, refl, sym, ap, ◌∙◌, append-nil, append_assoc, length-append, le-ltb, arith}
use Rattle.std.specs.List.{flat_map}
use Rattle.std.proofs.lemmas.Bool.{eq-eqb, ne_eqb}
use Rattle.job_loop.specs.Shown.{Shown}
use Rattle.job_loop.specs.Meaning.{going, outcome, end_of}
use Rattle.job_loop.specs.declared.input_end.InputEnd.TheVariants as ends
use Rattle.opus_feed.specs.declared.framing.Framing.TheVariants.{Whole}
use Rattle.opus_packet.specs.Value.{PacketValue, IsPacketValue}
use Rattle.opus_packet.specs.Canonical.{canonical, canonical_shape}
use Rattle.opus_packet.proofs.CanonicalLemmas.{canonical-is_packet}
use Rattle.pack_records.proofs.LentLemmas.{lent_value-spelled}
use Rattle.rec_store.specs.Dump.{DumpRecord, dump_line, dump_head_bytes, dump_record_bytes, packet_of_record}
use Rattle.rec_store.specs.DumpItem.{kind_of, item_of}
use Rattle.rec_store.specs.DumpStore.{IsDumpOpening, IsDumpFront}
use Rattle.rec_store.specs.declared.stop.StoreFault.{StoreFault}
use Rattle.rec_store.proofs.PartLemmas.{record_part-nil}
use Rattle.rec_store.specs.declared.dump_item.DumpKind.TheVariants as kinds
use Rattle.dump_records.specs.declared.item.Item.{Item}
use Rattle.dump_records.specs.Capture.{shown_records, DumpEnds}
use Rattle.dump_records.specs.CaptureLaws.{dump_ends_once}
use Rattle.rtp_packet.specs.RtpRead.{AreFields, plain_packet}
use Rattle.rtp_packet.specs.declared.packet.RtpFields.{RtpFields}
use Rattle.rtp_packet.proofs.ReadingLemmas.{spelled-read, spelled-passes}
use Rattle.rtp_packet.proofs.WriteLemmas.{IsRtp-plain}
use Rattle.rtp_ends.specs.Numbers.{Heard}
use Rattle.rtp_ends.specs.Report.{arrival_report}
use Rattle.rtp_ends.specs.Sent.{fields_behind, packet_bytes}
use Rattle.net_jobs.specs.declared.stream.Stream.{Stream}
use Rattle.net_jobs.specs.declared.stream.Passed.TheVariants as sorts
use Rattle.net_jobs.specs.declared.events.Telling.TheVariants.{Store}
use Rattle.net_jobs.specs.Arrive.{passes, arrives, is_same, is_chosen, is_packet, packet_sort, rtp_sort, record_sort}
use Rattle.net_jobs.specs.Tell.{events_text}
use Rattle.net_jobs.specs.Capture.{captured_packet, captured_behind, captured_records, capture_of}
use Rattle.net_jobs.specs.Given.{AreSent}
use Rattle.net_jobs.specs.Receive.{Reception, begun, after, chosen_by, recv, most_records}
use Rattle.net_jobs.specs.Received.{AreRecords, received_after, received}
use Rattle.net_jobs.specs.Again.{any_stream, store_again, BeginsAndEnds}
use Rattle.net_jobs.proofs.CaptureLemmas.{length-packet_bytes}
use Rattle.net_jobs.proofs.FewLemmas.{length-shown}
use Rattle.net_jobs.proofs.PacketsLemmas.{captured_behind-fits}
use Rattle.net_jobs.proofs.ReportLemmas.{closed_whole}
use Rattle.net_jobs.proofs.ReportAgain.{written_head, heard_at, heard_behind, report_again}

stream_in : RtpFields → Stream
stream_in first = record { payload_type = first.payload_type; ssrc = first.ssrc }

-- no stream was chosen, or this one
IsOwn : Option Stream → Stream → Type 0
IsOwn None s = Unit {0}
IsOwn (Some chosen) s = chosen ≡ s

own_chosen : (chosen : Option Stream) (s : Stream) → IsOwn chosen s → is_chosen chosen s ≡ true
unfolding IsOwn
own_chosen None s own = refl
own_chosen (Some chosen) s own =
    ap (λ c. is_same c s) own
    ∙ ap (λ b. b && (s.ssrc == s.ssrc)) (eq-eqb s.payload_type s.payload_type refl)
    ∙ eq-eqb s.ssrc s.ssrc refl

own_after : (chosen : Option Stream) (s : Stream) (h : Heard) → IsOwn chosen s → IsOwn (chosen_by chosen (arrives s h)) s
unfolding IsOwn
own_after None s h own = refl
own_after (Some chosen) s h own = own

canonical_packet : (v : PacketValue) → IsPacketValue v → is_packet (canonical v) ≡ true
canonical_packet v is =
    ap (λ o. is_some o)
    (lent_value-spelled Whole v (canonical_shape (map length v.frames)) [] (canonical v) (canonical-is_packet v is))

sort_again : (first : RtpFields) (before : List (Option PacketValue)) (v : PacketValue) (chosen : Option Stream)
    → AreFields first → IsPacketValue v → IsOwn chosen (stream_in first)
    → record_sort any_stream chosen kinds.Rtp (packet_bytes first before v) ≡ arrives (stream_in first) (heard_at first before v)
unfolding record_sort heard_at stream_in
sort_again first before v chosen are is own =
    let fields = fields_behind first before in
    let bytes = packet_bytes first before v in
    let s : Stream = record { payload_type = first.payload_type; ssrc = first.ssrc } in
    let h : Heard = record { seq = fields.seq; stamp = fields.stamp; payload = canonical v } in
    let fit : AreFields fields = record {
      payload_type = are.payload_type;
      seq = omega arith;
      stamp = omega arith;
      ssrc = are.ssrc;
    } in
    let rtp = IsRtp-plain fields (canonical v) fit in
    ap (rtp_sort any_stream chosen bytes) (spelled-passes (plain_packet fields (canonical v)) bytes rtp)
    ∙ ap (packet_sort any_stream chosen) (spelled-read (plain_packet fields (canonical v)) bytes rtp)
    ∙ ap (λ b. if b then (if is_packet (canonical v) then arrives s h else passes sorts.Bad) else passes sorts.Other) (own_chosen chosen s own)
    ∙ ap (λ b. if b then arrives s h else passes sorts.Bad) (canonical_packet v is)

kind_again : (size : ℕ) → 1 ≤ size → kind_of size size ≡ kinds.Rtp
kind_again size some =
    rw (ne_eqb size 0 (λ none. omega (arith, none, some)), le-ltb size size (omega arith)) refl

bytes_again : (packet : List ℕ) → 1 ≤ length packet → (if length packet == 0 then packet else take (length packet) packet) ≡ packet
bytes_again packet some =
    rw (ne_eqb (length packet) 0 (λ none. omega (arith, none, some))) (take_all (length packet) packet (omega arith))

one_again : (first : RtpFields) (before : List (Option PacketValue)) (v : PacketValue) (k : Reception) → AreFields first
    → IsPacketValue v → IsOwn k.chosen (stream_in first)
    → after k (record_sort any_stream k.chosen (item_of (captured_packet first before v)).kind
    (packet_of_record (captured_packet first before v))) ≡ after k (arrives (stream_in first) (heard_at first before v))
one_again first before v k are is own =
    let packet = packet_bytes first before v in
    let some : 1 ≤ length packet = omega (arith, length-packet_bytes first before v) in
    ap (λ kind. after k (record_sort any_stream k.chosen kind (packet_of_record (captured_packet first before v))))
    (kind_again (length packet) some)
    ∙ ap (λ bytes. after k (record_sort any_stream k.chosen kinds.Rtp bytes)) (bytes_again packet some)
    ∙ ap (after k) (sort_again first before v k.chosen are is own)

heard_again : (at : ℕ) (first : RtpFields) (before rs : List (Option PacketValue)) (k : Reception) → AreFields first → AreSent rs
    → IsOwn k.chosen (stream_in first)
    → (received_after any_stream k (shown_records at (captured_behind first before rs))).heard ≡ k.heard ++ heard_behind first before rs
unfolding heard_behind
heard_again at first before [] k are sent own = sym (append-nil k.heard)
heard_again at first before (None ∷ rs) k are sent own = heard_again at first (before ++ None ∷ []) rs k are sent.1 own
heard_again at first before (Some v ∷ rs) k are sent own =
    let h = heard_at first before v in
    let s = stream_in first in
    let r = captured_packet first before v in
    let next = at + (8 + length r.kept) in
    let later = shown_records next (captured_behind first (before ++ Some v ∷ []) rs) in
    ap (λ (k : Reception). (received_after any_stream k later).heard) (one_again first before v k are sent.0 own)
    ∙ heard_again next first (before ++ Some v ∷ []) rs (after k (arrives s h)) are sent.1 (own_after k.chosen s h own)
    ∙ append_assoc k.heard (h ∷ []) (heard_behind first (before ++ Some v ∷ []) rs)

all_records : (at : ℕ) (records : List DumpRecord) → AreRecords (shown_records at records)
all_records at [] = tt
all_records at (r ∷ rs) = (tt, all_records (at + (8 + length r.kept)) rs)

captured_few : (first : RtpFields) (before rs : List (Option PacketValue)) → length (captured_behind first before rs) ≤ length rs
captured_few first before [] = omega arith
captured_few first before (None ∷ rs) = let rest = captured_few first (before ++ None ∷ []) rs in omega (arith, rest)
captured_few first before (Some v ∷ rs) = let rest = captured_few first (before ++ Some v ∷ []) rs in omega (arith, rest)

-- the records of the capture give the store
pub received_again : (at : ℕ) (first : RtpFields) (packets : List (Option PacketValue)) → AreFields first → AreSent packets
    → BeginsAndEnds packets → length packets ≤ most_records
    → outcome (recv any_stream) (shown_records at (captured_records first packets)) ends.Closed ≡ going (store_again packets) tt
unfolding IsOwn
received_again at first packets are sent runs few =
    let rs = shown_records at (captured_records first packets) in
    let size = length-shown at (captured_records first packets) in
    closed_whole Store any_stream rs (all_records at (captured_records first packets))
    (omega (arith, size, captured_few first [] packets, few))
    ∙ ap (λ l. going l tt)
    (append-nil (events_text Store (arrival_report (received any_stream rs).heard))
    ∙ ap (λ (hs : List Heard). events_text Store (arrival_report hs)) (heard_again at first [] packets begun are sent tt)
    ∙ report_again first packets are.seq runs)

-- ---- the capture has these records

written_opening : IsDumpOpening written_head dump_head_bytes
unfolding written_head
written_opening = record {
  line = dump_line;
  numbers = replicate 16 0;
  is_line = record {
    text = 48 ∷ 46 ∷ 48 ∷ 46 ∷ 48 ∷ 46 ∷ 48 ∷ 47 ∷ 48 ∷ [];
    one_line = (λ e. omega (arith, e), (λ e. omega (arith, e), (λ e. omega (arith, e), (λ e. omega (arith, e), (λ e. omega (arith, e), (λ e. omega (arith, e), (λ e. omega (arith, e), (λ e. omega (arith, e), (λ e. omega (arith, e), tt)))))))));
    spelled = refl;
    fits = omega arith;
  };
  is_head = record {
    seconds = omega arith;
    micros = omega arith;
    address = omega arith;
    port = omega arith;
    padding = 0 ∷ 0 ∷ [];
    two = refl;
    spelled = refl;
  };
  bytes_are = refl;
}

written_front : (first : RtpFields) (packets : List (Option PacketValue)) → AreSent packets
    → IsDumpFront (capture_of first packets) written_head (captured_records first packets) []
written_front first packets sent = record {
  opening = dump_head_bytes;
  is_opening = written_opening;
  are = captured_behind-fits first [] packets sent;
  parts = ap (λ l. dump_head_bytes ++ l) (sym (append-nil (flat_map dump_record_bytes (captured_records first packets))));
}

written_ends : (first : RtpFields) (packets : List (Option PacketValue)) → AreSent packets
    → DumpEnds (capture_of first packets) (shown_records (length dump_head_bytes) (captured_records first packets)) None
written_ends first packets sent =
    let records = captured_records first packets in
    let front = written_front first packets sent in
    let at = length dump_head_bytes in (
      inr (inr record {
        head = written_head;
        records = records;
        rest = [];
        front = front;
        first = at;
        at = at + length (flat_map dump_record_bytes records);
        first_is = refl;
        at_is = omega (arith, length-append dump_head_bytes (flat_map dump_record_bytes records));
        last = [];
        shows_rest = inl (record_part-nil, refl);
        shows = sym (append-nil (shown_records at records));
      }),
      λ cut. cut.not_whole written_head records front,
    )

pub sent_ends : (first : RtpFields) (packets : List (Option PacketValue)) → AreSent packets
    → (rs : List (Shown Item)) × DumpEnds (capture_of first packets) rs None
sent_ends first packets sent =
    (shown_records (length dump_head_bytes) (captured_records first packets), written_ends first packets sent)

-- so recv over the capture gives the store again
pub sent_again : (first : RtpFields) (packets : List (Option PacketValue)) (rs : List (Shown Item)) (cut : Option StoreFault)
    → AreFields first → AreSent packets → BeginsAndEnds packets → length packets ≤ most_records
    → DumpEnds (capture_of first packets) rs cut → outcome (recv any_stream) rs (end_of cut) ≡ going (store_again packets) tt
sent_again first packets rs cut are sent runs few reads =
    let at = length dump_head_bytes in
    let records = shown_records at (captured_records first packets) in
    let one = dump_ends_once (capture_of first packets) rs records cut None reads (written_ends first packets sent) in
    ap (λ rs. outcome (recv any_stream) rs (end_of cut)) one.0
    ∙ ap (λ c. outcome (recv any_stream) records (end_of c)) one.1
    ∙ received_again at first packets are sent runs few
