-- Which jobs `net_job` does, and what it answers for each.
use Rattle.std.specs.Prelude.{ℕ, ◌^◌, ◌<◌, IfSome, unwrap_or}
use Rattle.opus_io.specs.Outside.{Outside}
use Rattle.opus_feed.specs.declared.padding.Padding.TheVariants.{Drop}
use Rattle.opus_words.specs.declared.kind.JobKind.{JobKind}
use Rattle.opus_words.specs.declared.kind.JobKind.TheVariants as kinds
use Rattle.opus_words.specs.declared.job.Job.{Job}
use Rattle.opus_words.specs.declared.ending.Ending.{Ending}
use Rattle.rtp_packet.specs.declared.packet.RtpFields.{RtpFields}
use Rattle.rtp_ends.specs.Sent.{first_fields}
use Rattle.pack_records.specs.Demo.{DemoSettles, DemoEnds}
use Rattle.pack_jobs.specs.PackEnds.{MeaningEnds}
use Rattle.job_ends.specs.Ends as ends
use Rattle.job_loop.specs.Shown.{Shown}
use Rattle.job_loop.specs.Meaning.{Meaning}
use Rattle.rec_store.specs.declared.stop.StoreFault.{StoreFault}
use Rattle.dump_records.specs.declared.item.Item.{Item}
use Rattle.dump_records.specs.Capture.{DumpSettles, DumpEnds}
use Rattle.net_jobs.specs.declared.stream.Asked.{Asked}
use Rattle.net_jobs.specs.declared.capture_refusal.CaptureRefusal.{CaptureRefusal}
use Rattle.net_jobs.specs.CaptureRefusal.{TellsCapture}
use Rattle.net_jobs.specs.Send.{send}
use Rattle.net_jobs.specs.Receive.{Reception, recv, replay}

-- the jobs over RTP
abbrev pub IsNetKind : JobKind → Type 0
IsNetKind kinds.Send = Unit {0}
IsNetKind kinds.Recv = Unit {0}
IsNetKind kinds.Replay = Unit {0}
IsNetKind kind = ⊥

-- one of them, whose payload type has seven bits
pub record IsNetJob (job : Job) : Type 0 where
  pub kind : IsNetKind job.kind
  pub pt : IfSome job.pt (λ n. n < 2 ^ 7)

-- the fields of the first packet that is sent
abbrev pub first_in : Job → RtpFields
first_in job = first_fields (unwrap_or job.seq 0) (unwrap_or job.stamp 0) (unwrap_or job.ssrc 0) (unwrap_or job.pt 96)

-- the streams that may be chosen
abbrev pub asked_in : Job → Asked
asked_in job = record { payload_type = job.pt; ssrc = job.ssrc }

-- where a record of a capture was decided
abbrev pub place_of : Shown Item → ℕ
place_of r = r.item.place

-- how a run of a job over a capture ended; want of memory may come at any time
abbrev pub ReceiveEnds : Meaning (Shown Item) Reception StoreFault CaptureRefusal → ℕ → Outside → Outside → Ending
    → Type 0
ReceiveEnds m limit before after =
    ends.MeaningEnds TellsCapture place_of m DumpSettles DumpEnds limit before after (Unit {0})

-- what the job of a kind means: one line a job
abbrev pub KindEnds : JobKind → Job → ℕ → Outside → Outside → Type 0 → Ending → Type 0
KindEnds kinds.Send job = MeaningEnds (send (first_in job)) (DemoSettles Drop) (DemoEnds Drop)
KindEnds kinds.Recv job = λ limit before after Untouched result. ReceiveEnds (recv (asked_in job)) limit before after result
KindEnds kinds.Replay job =
    λ limit before after Untouched result. ReceiveEnds (replay (asked_in job)) limit before after result
KindEnds kind job = λ limit before after Untouched result. ⊥

-- the job ended as its meaning has it over the records of its input
abbrev pub NetEnds : Job → ℕ → Outside → Outside → Type 0 → Ending → Type 0
NetEnds job = KindEnds job.kind job
