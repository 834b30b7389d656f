-- The packets in a capture are the packets sent.
use Rattle.std.proofs.Common.{◌≡◌, ℕ, ◌==◌, Bool, true, false, if◌then◌else◌, List, [], ◌∷◌, ◌++◌, length, map, take, take_all, Option, None, Some, refl, ap, ◌∙◌, arith}
use Rattle.std.specs.List.{AllByRecursion}
use Rattle.std.proofs.lemmas.List.{map-append}
use Rattle.opus_packet.specs.Value.{PacketValue, IsPacketValue}
use Rattle.rec_store.specs.Dump.{IsDumpRecord, packet_of_record}
use Rattle.rtp_packet.specs.declared.packet.RtpFields.{RtpFields}
use Rattle.rtp_ends.specs.Sent.{packet_bytes, packets_of, packets_behind}
use Rattle.net_jobs.specs.Capture.{captured_packet, captured, captured_behind}
use Rattle.net_jobs.specs.Given.{AreSent}
use Rattle.net_jobs.proofs.CaptureLemmas.{length-packet_bytes}
use Rattle.net_jobs.proofs.PlainLemmas.{canonical-short}

whole_by : (packet : List ℕ) (b : Bool) → (if b then packet else take (length packet) packet) ≡ packet
whole_by packet true = refl
whole_by packet false = take_all (length packet) packet (omega arith)

captured-packets : (first : RtpFields) (before : List (Option PacketValue)) (given : Option PacketValue)
    → map packet_of_record (captured first before given) ≡ packets_of first before given
captured-packets first before None = refl
captured-packets first before (Some v) =
    let packet = packet_bytes first before v in
    ap (λ p. p ∷ []) (whole_by packet (length packet == 0))

pub captured_behind-packets : (first : RtpFields) (before rs : List (Option PacketValue))
    → map packet_of_record (captured_behind first before rs) ≡ packets_behind first before rs
captured_behind-packets first before [] = refl
captured_behind-packets first before (r ∷ rs) =
    map-append packet_of_record (captured first before r) (captured_behind first (before ++ r ∷ []) rs)
    ∙ ap (λ l. l ++ map packet_of_record (captured_behind first (before ++ r ∷ []) rs)) (captured-packets first before r)
    ∙ ap (λ l. packets_of first before r ++ l) (captured_behind-packets first (before ++ r ∷ []) rs)

captured-fits : (first : RtpFields) (before : List (Option PacketValue)) (v : PacketValue) → IsPacketValue v
    → IsDumpRecord (captured_packet first before v)
captured-fits first before v is =
    let size = length-packet_bytes first before v in
    let short = canonical-short v is in
    record {
      packet_length = omega (arith, size, short);
      offset = omega arith;
      length_fits = omega (arith, size, short);
    }

pub captured_behind-fits : (first : RtpFields) (before rs : List (Option PacketValue)) → AreSent rs
    → AllByRecursion IsDumpRecord (captured_behind first before rs)
captured_behind-fits first before [] are = tt
captured_behind-fits first before (None ∷ rs) are = captured_behind-fits first (before ++ None ∷ []) rs are.1
captured_behind-fits first before (Some v ∷ rs) are =
    (captured-fits first before v are.0, captured_behind-fits first (before ++ Some v ∷ []) rs are.1)
