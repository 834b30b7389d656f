-- What a sender keeps, and for which records it stands.
use Rattle.std.specs.Prelude.{◌≡◌, ℕ, ◌+◌, ◌*◌, ◌%◌, ◌^◌, ◌<◌, ◌≤◌, List, Option, length, false}
use Rattle.opus_packet.specs.Value.{PacketValue}
use Rattle.rtp_packet.specs.declared.packet.RtpFields.{RtpFields}
use Rattle.rtp_ends.specs.declared.sender.Sender.TheInside.{Inside}
use Rattle.rtp_ends.specs.Sent.{elapsed_in, last_raise}

-- The first packet's fields, how many records there were, and how many samples they last. A lost packet lasts step samples.
pub record SenderState : Type 0 where
  pub first : RtpFields
  pub sent : ℕ
  pub elapsed : ℕ
  pub step : ℕ

abbrev pub state_inside : Inside → SenderState
state_inside s = record {
  first = s.first;
  sent = s.sent;
  elapsed = s.elapsed;
  step = s.step;
}

pub record IsSenderInside (s : Inside) : Type 0 where
  pub payload_type : s.first.payload_type < 2 ^ 7
  pub counted : s.sent ≤ 2 ^ 40
  pub short : s.elapsed ≤ 5760 * s.sent
  pub step_most : s.step ≤ 5760

-- the sender was given these records, one after the other
pub record SenderStands (s : SenderState) (records : List (Option PacketValue)) : Type 0 where
  pub sent_is : s.sent ≡ length records
  pub elapsed_is : s.elapsed ≡ elapsed_in records
  pub step_is : s.step ≡ last_raise 0 records

-- the fields of the next packet
abbrev pub next_fields : SenderState → RtpFields
next_fields s = record {
  marker = false;
  payload_type = s.first.payload_type;
  seq = (s.first.seq + s.sent) % 65536;
  stamp = (s.first.stamp + s.elapsed) % 4294967296;
  ssrc = s.first.ssrc;
}

-- one record more, which lasts so many samples
abbrev pub passed : SenderState → ℕ → SenderState
passed s step = record {
  first = s.first;
  sent = s.sent + 1;
  elapsed = s.elapsed + step;
  step = step;
}
