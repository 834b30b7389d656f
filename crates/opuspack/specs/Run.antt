-- What the whole program does with its words, its input and its output.
use Rattle.std.specs.Prelude.{◌≡◌, ℕ, nat_lt, Bool, true, false, Option, Some, None, Result, Ok, Err, unwrap_or}
use Rattle.opus_io.specs.Outside.{Outside}
use Rattle.opus_words.specs.declared.job.Job.{Job}
use Rattle.opus_words.specs.declared.kind.JobKind.{JobKind}
use Rattle.opus_words.specs.declared.kind.JobKind.TheVariants as kinds
use Rattle.opus_words.specs.declared.ending.Ending.{Ending}
use Rattle.opus_words.specs.declared.ending.Ending.TheVariants.{NoMemory}
use Rattle.opus_words.specs.declared.fault.UsageKind.{UsageKind}
use Rattle.pack_jobs.specs.PackEnds.{PackEnds}
use Rattle.job_ends.specs.Ends.{MeaningEnds}
use Rattle.job_ends.specs.Choices.{stream_count}
use Rattle.net_jobs.specs.NetEnds.{NetEnds}
use Rattle.stream_jobs.specs.StreamEnds.{StreamEnds}
use Rattle.stream_jobs.specs.JoinEnds.{JoinEnds}
use Rattle.text_jobs.specs.Lines.{place_of, LineSettles, LineEnds}
use Rattle.text_jobs.specs.Sdp.{sdp, TellsSdp}
use Rattle.opuspack.specs.HeadEnds.{HeadEnds}
use Rattle.opuspack.specs.Make.{made_store}
use Rattle.opuspack.specs.Trial.{trial_text}
use Rattle.opuspack.specs.WritesText.{WritesOnly}
use Rattle.opuspack.specs.declared.finish.Finish.{Finish}
use Rattle.opuspack.specs.declared.finish.Finish.TheVariants.{Usage, Ended}

-- the seed of made records, and how many are made
abbrev pub seed_in : Job → ℕ
seed_in job = unwrap_or job.seed 0

abbrev pub count_in : Job → ℕ
count_in job = unwrap_or job.count 0

-- more streams than one
abbrev pub is_several : Option ℕ → Bool
is_several None = false
is_several (Some n) = nat_lt 1 n

-- a job over packets ended so, where each is a multistream packet or one of a single stream
abbrev pub OverPackets : Bool → Job → ℕ → Outside → Outside → Type 0 → Ending → Type 0
OverPackets true job = StreamEnds job
OverPackets false job = PackEnds job

-- How the job of a kind ended: one line a job that isn't over packets. Unread and Unwritten say that the source and the
-- sink are as they were.
abbrev pub KindEnds : JobKind → Job → ℕ → Outside → Outside → Type 0 → Type 0 → Ending → Type 0
KindEnds kinds.Head job limit before after Unread Unwritten ending = HeadEnds limit before after ending
KindEnds kinds.Send job limit before after Unread Unwritten ending = NetEnds job limit before after Unread ending
KindEnds kinds.Recv job limit before after Unread Unwritten ending = NetEnds job limit before after Unread ending
KindEnds kinds.Replay job limit before after Unread Unwritten ending = NetEnds job limit before after Unread ending
KindEnds kinds.Sdp job limit before after Unread Unwritten ending =
    MeaningEnds TellsSdp place_of sdp LineSettles LineEnds limit before after (Unit {0}) ending
KindEnds kinds.Make job limit before after Unread Unwritten ending =
    WritesOnly (made_store (seed_in job) (count_in job)) before after Unread Unwritten ending
KindEnds kinds.Trial job limit before after Unread Unwritten ending =
    WritesOnly (trial_text (seed_in job) (count_in job)) before after Unread Unwritten ending
KindEnds kinds.Apart job limit before after Unread Unwritten ending = StreamEnds job limit before after Unread ending
KindEnds kinds.Extract job limit before after Unread Unwritten ending = StreamEnds job limit before after Unread ending
KindEnds kinds.Join job limit before after Unread Unwritten ending =
    JoinEnds (stream_count job) limit before after Unread ending
KindEnds kind job limit before after Unread Unwritten ending =
    OverPackets (is_several job.streams) job limit before after Unread ending

-- Where the words stand for a job, it ended as the job's meaning says: these were the source and the sink, and these
-- they are. Where the words stand for none, the answer is their usage kind, or want of memory, and both are as they were.
abbrev pub Meant : {S O : Type 0} → Result Job UsageKind → ℕ → Finish → (S → O → Outside) → S → S → O → O → Type 0
Meant (Ok job) limit (Ended ending) seen source source' out out' =
    KindEnds job.kind job limit (seen source out) (seen source' out') (source' ≡ source) (out' ≡ out) ending
Meant (Ok job) limit (Usage kind) seen source source' out out' = ⊥
Meant (Err kind) limit (Usage told) seen source source' out out' =
    (told ≡ kind) × (source' ≡ source) × (out' ≡ out)
Meant (Err kind) limit (Ended ending) seen source source' out out' =
    (ending ≡ NoMemory) × (source' ≡ source) × (out' ≡ out)
