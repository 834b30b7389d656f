-- What is written for a packet.
use Rattle.std.proofs.Common.{◌≡◌, ℕ, ◌+◌, List, ◌++◌, length, Option, append-nil, sym, ap, ◌∙◌, arith}
use Rattle.opus_packet.specs.Value.{PacketValue}
use Rattle.opus_packet.specs.Canonical.{canonical}
use Rattle.rec_store.specs.Dump.{dump_record_head}
use Rattle.rtp_packet.specs.declared.packet.RtpFields.{RtpFields}
use Rattle.rtp_ends.specs.Sent.{packet_bytes}
use Rattle.rtp_ends.specs.Sends.{SenderState}
use Rattle.net_jobs.specs.Capture.{offset_behind, packet_text}

pub length-packet_bytes : (first : RtpFields) (records : List (Option PacketValue)) (v : PacketValue)
    → length (packet_bytes first records v) ≡ 12 + length (canonical v)
length-packet_bytes first records v = omega (arith, ap length (append-nil (canonical v)))

-- a head, and the packet that a sender appended behind it
pub packet_text-made : (old begun : SenderState) (records : List (Option PacketValue)) (v : PacketValue) (size : ℕ)
    (head text : List ℕ) → begun ≡ old → size ≡ 12 + length (canonical v)
    → head ≡ dump_record_head size size (offset_behind records) → text ≡ head ++ packet_bytes begun.first records v
    → text ≡ packet_text old.first records v
unfolding packet_text
packet_text-made old begun records v size head text same size_is head_is text_is =
    let packet = packet_bytes old.first records v in
    let whole : size ≡ length packet = size_is ∙ sym (length-packet_bytes old.first records v) in
    text_is
    ∙ ap (λ (s : SenderState). head ++ packet_bytes s.first records v) same
    ∙ ap (λ l. l ++ packet) (head_is ∙ ap (λ n. dump_record_head n n (offset_behind records)) whole)
