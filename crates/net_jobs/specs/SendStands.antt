-- What the object of the job send stands for.
use Rattle.std.specs.Prelude.{◌≡◌, List, [], ◌∷◌, ◌++◌, Option}
use Rattle.job_loop.specs.Shown.{Shown}
use Rattle.job_loop.specs.Meaning.{Meaning}
use Rattle.opus_packet.specs.Value.{PacketValue}
use Rattle.rtp_packet.specs.declared.packet.RtpFields.{RtpFields}
use Rattle.rtp_ends.specs.Sends.{SenderStands}
use Rattle.pack_records.specs.declared.cut.Cut.{Cut}
use Rattle.pack_records.specs.declared.item.Item.{Item}
use Rattle.pack_jobs.specs.Refusal.{Refusal}
use Rattle.net_jobs.specs.declared.send.SendJob.{SendJob}
use Rattle.net_jobs.specs.Capture.{record_text}
use Rattle.net_jobs.specs.Send.{send}

-- the job with the first fields of the object's sender
abbrev pub send_job : SendJob → Meaning (Shown Item) (List (Option PacketValue)) Cut Refusal
send_job s = send s.sender.first

-- the sender was given these records
abbrev pub SendStands : SendJob → List (Option PacketValue) → Type 0
SendStands s records = SenderStands s.sender records

-- behind these records the sender was given this one, and the object has its text
pub record IsGiven (first : RtpFields) (records : List (Option PacketValue)) (given : Option PacketValue) (s : SendJob) : Type 0 where
  pub stands : SenderStands s.sender (records ++ given ∷ [])
  pub text_is : s.text.items ≡ record_text first records given
