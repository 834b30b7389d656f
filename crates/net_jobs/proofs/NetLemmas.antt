-- A run of a job over RTP for which there was no memory before the first read.
use Rattle.std.proofs.Common.{ℕ, [], inl, refl, arith}
use Rattle.opus_io.specs.Outside.{Outside}
use Rattle.opus_feed.specs.declared.padding.Padding.TheVariants.{Drop}
use Rattle.opus_words.specs.declared.ending.Ending.TheVariants.{NoMemory}
use Rattle.opus_words.specs.declared.form.Form.TheVariants.{Demo}
use Rattle.opus_words.specs.declared.job.Job.{Job}
use Rattle.opus_words.specs.declared.kind.JobKind.{JobKind}
use Rattle.opus_words.specs.declared.kind.JobKind.TheVariants as kinds
use Rattle.job_ends.proofs.EndsLemmas.{unstarted_ends}
use Rattle.pack_records.specs.Demo.{DemoSettles, DemoEnds}
use Rattle.pack_jobs.specs.Refusal.{Tells}
use Rattle.pack_jobs.specs.PackEnds.{place_of}
use Rattle.pack_jobs.proofs.PackLemmas.{none_settled}
use Rattle.job_loop.specs.Shown.{Shown}
use Rattle.job_loop.specs.Meaning.{Meaning}
use Rattle.rec_store.specs.declared.stop.StoreFault.{StoreFault}
use Rattle.rec_store.specs.Dump.{dump_mark}
use Rattle.rec_store.proofs.PartLemmas.{opening_part-line}
use Rattle.dump_records.specs.declared.item.Item.{Item}
use Rattle.dump_records.specs.Capture.{DumpSettles, DumpEnds}
use Rattle.net_jobs.specs.declared.capture_refusal.CaptureRefusal.{CaptureRefusal}
use Rattle.net_jobs.specs.CaptureRefusal.{TellsCapture}
use Rattle.net_jobs.specs.Send.{send}
use Rattle.net_jobs.specs.Receive.{Reception, recv, replay}
use Rattle.net_jobs.specs.NetEnds as Ends
use Rattle.net_jobs.specs.NetEnds.{IsNetKind, KindEnds, ReceiveEnds, first_in, asked_in}

pub no_capture : DumpSettles [] []
no_capture = inl record {
  part = opening_part-line [] (inl record { others = dump_mark; some = omega arith; mark_is = refl });
  shows = refl;
}

pub receive_unstarted : (m : Meaning (Shown Item) Reception StoreFault CaptureRefusal) (limit : ℕ) (outside : Outside)
    → ReceiveEnds m limit outside outside NoMemory
receive_unstarted m limit outside =
    unstarted_ends TellsCapture Ends.place_of m DumpSettles DumpEnds limit outside (Unit {0}) tt no_capture

pub unstarted_net : (kind : JobKind) → IsNetKind kind → (job : Job) (limit : ℕ) (outside : Outside) (Untouched : Type 0)
    → Untouched → KindEnds kind job limit outside outside Untouched NoMemory
unstarted_net kinds.Send is job limit outside Untouched same =
    unstarted_ends Tells place_of (send (first_in job)) (DemoSettles Drop) (DemoEnds Drop) limit outside Untouched same
    (none_settled Demo Drop)
unstarted_net kinds.Recv is job limit outside Untouched same = receive_unstarted (recv (asked_in job)) limit outside
unstarted_net kinds.Replay is job limit outside Untouched same = receive_unstarted (replay (asked_in job)) limit outside
unstarted_net kind is job limit outside Untouched same = absurd is
