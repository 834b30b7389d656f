-- What is read, and what is written, as plain numbers and lists.
use Rattle.std.specs.Prelude.{ℕ, ◌^◌, ◌<◌, List, [], Option, None, Some}
use Rattle.rtp_packet.specs.RtpValue.{Extension, RtpValue}
use Rattle.rtp_packet.specs.RtpBytes.{rtp_bytes}
use Rattle.rtp_packet.specs.declared.packet.Rtp.{Rtp}
use Rattle.rtp_packet.specs.declared.packet.RtpFields.{RtpFields}
use denote.Ref.{Bor}

abbrev pub extension_value : Option (ℕ × Bor (List ℕ)) → Option Extension
extension_value None = None
extension_value (Some e) = Some (record { profile = e.0; words = e.1.now })

-- what an `Rtp` says
abbrev pub rtp_value : Rtp → RtpValue
rtp_value r = record {
  marker = r.marker;
  payload_type = r.payload_type;
  seq = r.seq;
  stamp = r.stamp;
  ssrc = r.ssrc;
  csrc = r.csrc.now;
  extension = extension_value r.extension;
  payload = r.payload.now;
  padding = r.padding;
}

-- fields that fit their bits, as those of `write_rtp` do
pub record AreFields (fields : RtpFields) : Type 0 where
  pub payload_type : fields.payload_type < 2 ^ 7
  pub seq : fields.seq < 2 ^ 16
  pub stamp : fields.stamp < 2 ^ 32
  pub ssrc : fields.ssrc < 2 ^ 32

-- the packet that has these fields and this payload, and neither CSRCs nor extension nor padding
abbrev pub plain_packet : RtpFields → List ℕ → RtpValue
plain_packet fields payload = record {
  marker = fields.marker;
  payload_type = fields.payload_type;
  seq = fields.seq;
  stamp = fields.stamp;
  ssrc = fields.ssrc;
  csrc = [];
  extension = None;
  payload = payload;
  padding = 0;
}

-- its bytes
abbrev pub plain_bytes : RtpFields → List ℕ → List ℕ
plain_bytes fields payload = rtp_bytes (plain_packet fields payload) []
