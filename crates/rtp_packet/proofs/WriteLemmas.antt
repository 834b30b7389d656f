-- What is written is a packet.
use Rattle.std.proofs.Common.{ℕ, List, [], refl, arith}
use Rattle.rtp_packet.specs.RtpBytes.{IsRtp}
use Rattle.rtp_packet.specs.RtpRead.{AreFields, plain_packet, plain_bytes}
use Rattle.rtp_packet.specs.declared.packet.RtpFields.{RtpFields}

pub IsRtp-plain : (fields : RtpFields) (payload : List ℕ) → AreFields fields
    → IsRtp (plain_packet fields payload) (plain_bytes fields payload)
IsRtp-plain fields payload is = record {
  value = record {
    payload_type = is.payload_type;
    seq = is.seq;
    stamp = is.stamp;
    ssrc = is.ssrc;
    csrc = record { whole = refl; fit = omega arith };
    extension = tt;
    padding = omega arith;
  };
  padding = [];
  counted = record { size = refl; last = λ some. absurd (omega arith) };
  spelled = refl;
}
