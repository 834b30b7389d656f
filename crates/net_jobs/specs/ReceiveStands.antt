-- What the object of the jobs recv and replay stands for.
use Rattle.std.specs.Prelude.{◌≡◌}
use Rattle.job_loop.specs.Shown.{Shown}
use Rattle.job_loop.specs.Meaning.{Meaning}
use Rattle.rec_store.specs.declared.stop.StoreFault.{StoreFault}
use Rattle.dump_records.specs.declared.item.Item.{Item}
use Rattle.rtp_ends.specs.Report.{arrival_report, certain_events}
use Rattle.rtp_ends.specs.Receives.{ReceiverStands}
use Rattle.job_ends.specs.Refusal.{told}
use Rattle.net_jobs.specs.declared.capture_refusal.CaptureRefusal.{CaptureRefusal}
use Rattle.net_jobs.specs.declared.receive.ReceiveJob.{ReceiveJob}
use Rattle.net_jobs.specs.Tell.{missing_in}
use Rattle.net_jobs.specs.Receive.{Reception, receive, told_now, told_last}

-- the job that the object does
abbrev pub receive_job : ReceiveJob → Meaning (Shown Item) Reception StoreFault CaptureRefusal
receive_job s = receive s.telling s.asked

-- its receiver got what arrived, and what is certain of that was told
pub record ReceiveStands (s : ReceiveJob) (k : Reception) : Type 0 where
  pub counts : s.counts ≡ k.counts
  pub chosen : s.chosen ≡ k.chosen
  pub receiver : ReceiverStands s.receiver k.heard
  pub missing : s.missing ≡ told (missing_in (certain_events k.heard))

-- the object took one record more, and has the events that this made certain
pub record TookRecord (new : ReceiveJob) (k now : Reception) : Type 0 where
  pub stands : ReceiveStands new now
  pub events : new.events.items ≡ told_now k now

-- the receiver is closed, and the object has the rest of its events
pub record HasClosed (new : ReceiveJob) (k : Reception) : Type 0 where
  pub counts : new.counts ≡ k.counts
  pub events : new.events.items ≡ told_last k
  pub missing : new.missing ≡ missing_in (arrival_report k.heard)
