-- Which jobs `stream_job` does, and what it answers for each.
use Rattle.std.specs.Prelude.{ℕ, List, unwrap_or, Option}
use Rattle.opus_io.specs.Outside.{Outside}
use Rattle.job_loop.specs.Shown.{Shown}
use Rattle.job_loop.specs.Meaning.{Meaning}
use Rattle.opus_words.specs.declared.form.Form.{Form}
use Rattle.opus_words.specs.declared.form.Form.TheVariants.{Raw, Demo, SelfDelimited}
use Rattle.opus_words.specs.declared.kind.JobKind.{JobKind}
use Rattle.opus_words.specs.declared.kind.JobKind.TheVariants.{Norm, Check, Show, Apart, Extract}
use Rattle.opus_words.specs.declared.job.Job.{Job}
use Rattle.opus_words.specs.declared.ending.Ending.{Ending}
use Rattle.job_ends.specs.Ends as ends
use Rattle.job_ends.specs.Ends.{RunOver}
use Rattle.job_ends.specs.Choices.{padding_in, stream_count}
use Rattle.pack_records.specs.declared.cut.Cut.{Cut}
use Rattle.stream_records.specs.declared.item.StreamsItem.{StreamsItem}
use Rattle.stream_records.specs.Holds.{Choices}
use Rattle.stream_records.specs.Raw.{RawSettles, RawEnds}
use Rattle.stream_records.specs.Demo.{DemoSettles, DemoEnds}
use Rattle.stream_jobs.specs.Refusal.{Tells, StreamRefusal}
use Rattle.stream_jobs.specs.Norm.{norm}
use Rattle.stream_jobs.specs.Check.{check}
use Rattle.stream_jobs.specs.Show.{show}
use Rattle.stream_jobs.specs.Apart.{apart}
use Rattle.stream_jobs.specs.Extract.{extract}

-- the jobs over multistream packets
abbrev pub IsStreamKind : JobKind → Type 0
IsStreamKind Norm = Unit {0}
IsStreamKind Check = Unit {0}
IsStreamKind Show = Unit {0}
IsStreamKind Apart = Unit {0}
IsStreamKind Extract = Unit {0}
IsStreamKind kind = ⊥

-- the form of the input: apart and extract take a store
abbrev pub form_by : JobKind → Option Form → Form
form_by Apart form = Demo
form_by Extract form = Demo
form_by kind form = unwrap_or form Raw

abbrev pub form_of : Job → Form
form_of job = form_by job.kind job.form

-- self-delimited packets have one stream
abbrev pub IsStreamForm : Form → Type 0
IsStreamForm Raw = Unit {0}
IsStreamForm Demo = Unit {0}
IsStreamForm SelfDelimited = ⊥

pub record IsStreamJob (job : Job) : Type 0 where
  pub kind : IsStreamKind job.kind
  pub form : IsStreamForm (form_of job)

-- which stream of a packet is chosen
abbrev pub stream_of : Job → ℕ
stream_of job = unwrap_or job.stream 0

abbrev pub choices_in : Job → Choices
choices_in job = record { streams = stream_count job; padding = padding_in job }

-- where a record was decided
abbrev pub place_of : Shown StreamsItem → ℕ
place_of r = r.item.place

-- how a run of a job over multistream packets ended
abbrev pub MeaningEnds : {K : Type 0} → Meaning (Shown StreamsItem) K Cut StreamRefusal → RunOver (Shown StreamsItem) Cut
MeaningEnds m = ends.MeaningEnds Tells place_of m

-- what the job of a kind means over records of its form: one line a job
abbrev pub KindEnds : JobKind → Job → RunOver (Shown StreamsItem) Cut
KindEnds Norm job = MeaningEnds (norm (form_of job) (stream_count job) (padding_in job))
KindEnds Check job = MeaningEnds (check (stream_count job))
KindEnds Show job = MeaningEnds (show (stream_count job))
KindEnds Apart job = MeaningEnds (apart (stream_count job))
KindEnds Extract job = MeaningEnds (extract (stream_count job) (stream_of job))
KindEnds kind job = λ Settles Ends limit before after Untouched result. ⊥

-- the job ended as its meaning has it, where Settles and Ends say which records its input has
abbrev pub JobEnds : Job → RunOver (Shown StreamsItem) Cut
JobEnds job = KindEnds job.kind job

-- the records that bytes of a form settle, and those of a whole input: one line a form
abbrev pub settles_in : Form → Choices → List ℕ → List (Shown StreamsItem) → Type 0
settles_in Raw c = RawSettles c
settles_in Demo c = DemoSettles c
settles_in SelfDelimited c = λ h rs. ⊥

abbrev pub ends_in : Form → Choices → List ℕ → List (Shown StreamsItem) → Option Cut → Type 0
ends_in Raw c = RawEnds c
ends_in Demo c = DemoEnds c
ends_in SelfDelimited c = λ h rs cut. ⊥

-- a job of this meaning ended as it has it, over the records of the form that these options name
abbrev pub FormEnds : {K : Type 0} → Job → Meaning (Shown StreamsItem) K Cut StreamRefusal → ℕ → Outside → Outside → Type 0
    → Ending → Type 0
FormEnds job m = MeaningEnds m (settles_in (form_of job) (choices_in job)) (ends_in (form_of job) (choices_in job))

-- the job ended as its meaning has it over the records of its form
abbrev pub StreamEnds : Job → ℕ → Outside → Outside → Type 0 → Ending → Type 0
StreamEnds job = JobEnds job (settles_in (form_of job) (choices_in job)) (ends_in (form_of job) (choices_in job))
