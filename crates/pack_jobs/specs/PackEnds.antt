-- Which jobs `pack_job` does, and what it answers for each.
use Rattle.std.specs.Prelude.{◌≡◌, ℕ, List, IfSome, IsSome, unwrap_or, Option, max}
use Rattle.opus_io.specs.Outside.{Outside}
use Rattle.job_loop.specs.Shown.{Shown}
use Rattle.job_loop.specs.Meaning.{Meaning}
use Rattle.opus_feed.specs.declared.padding.Padding.{Padding}
use Rattle.opus_words.specs.declared.form.Form.{Form}
use Rattle.opus_words.specs.declared.form.Form.TheVariants.{Raw, Demo, SelfDelimited}
use Rattle.opus_words.specs.declared.kind.JobKind.{JobKind}
use Rattle.opus_words.specs.declared.kind.JobKind.TheVariants.{Norm, Check, Show, Merge, Split, Pad}
use Rattle.opus_words.specs.declared.job.Job.{Job}
use Rattle.opus_words.specs.declared.ending.Ending.{Ending}
use Rattle.job_ends.specs.Ends as ends
use Rattle.job_ends.specs.Ends.{RunOver}
use Rattle.job_ends.specs.Choices.{form_in, padding_in}
use Rattle.pack_records.specs.declared.cut.Cut.{Cut}
use Rattle.pack_records.specs.declared.item.Item.{Item}
use Rattle.pack_records.specs.Raw.{RawSettles, RawEnds}
use Rattle.pack_records.specs.Demo.{DemoSettles, DemoEnds}
use Rattle.pack_records.specs.Framed.{SelfSettles, SelfEnds}
use Rattle.pack_jobs.specs.Refusal.{Tells, Refusal}
use Rattle.pack_jobs.specs.Norm.{norm}
use Rattle.pack_jobs.specs.Check.{check}
use Rattle.pack_jobs.specs.Show.{show}
use Rattle.pack_jobs.specs.Merge.{merge}
use Rattle.pack_jobs.specs.Split.{split}
use Rattle.pack_jobs.specs.Pad.{pad}

-- the jobs over packets
abbrev pub IsPackKind : JobKind → Type 0
IsPackKind Norm = Unit {0}
IsPackKind Check = Unit {0}
IsPackKind Show = Unit {0}
IsPackKind Merge = Unit {0}
IsPackKind Split = Unit {0}
IsPackKind Pad = Unit {0}
IsPackKind kind = ⊥

-- one of them, over the packets of one stream, which most jobs don't name
pub record IsPackJob (job : Job) : Type 0 where
  pub kind : IsPackKind job.kind
  pub form : IsSome job.form
  pub streams : IfSome job.streams (λ n. n ≡ 1)

-- the frames of a piece: one at least, also where the job takes no such option
abbrev pub most_in : Job → ℕ
most_in job = max 1 (unwrap_or job.frames 1)

-- the size of a padded packet in bytes
abbrev pub size_in : Job → ℕ
size_in job = unwrap_or job.size 0

-- where a record was decided
abbrev pub place_of : Shown Item → ℕ
place_of r = r.item.place

-- how a run of a job over packets ended
abbrev pub MeaningEnds : {K : Type 0} → Meaning (Shown Item) K Cut Refusal → RunOver (Shown Item) Cut
MeaningEnds m = ends.MeaningEnds Tells place_of m

-- what the job of a kind means over records of its form: one line a job
abbrev pub KindEnds : JobKind → Job → RunOver (Shown Item) Cut
KindEnds Norm job = MeaningEnds (norm (form_in job) (padding_in job))
KindEnds Check job = MeaningEnds (check (form_in job))
KindEnds Show job = MeaningEnds show
KindEnds Merge job = MeaningEnds (merge (form_in job) job.group)
KindEnds Split job = MeaningEnds (split (form_in job) (most_in job))
KindEnds Pad job = MeaningEnds (pad (form_in job) (size_in job))
KindEnds kind job = λ Settles Ends limit before after Untouched result. ⊥

-- the job ended as its meaning has it, where Settles and Ends say which records its input has
abbrev pub JobEnds : Job → RunOver (Shown Item) Cut
JobEnds job = KindEnds job.kind job

-- the records that bytes of a form settle, and those of a whole input: one line a form
abbrev pub settles_in : Form → Padding → List ℕ → List (Shown Item) → Type 0
settles_in Raw padding = RawSettles
settles_in Demo padding = DemoSettles padding
settles_in SelfDelimited padding = SelfSettles padding

abbrev pub ends_in : Form → Padding → List ℕ → List (Shown Item) → Option Cut → Type 0
ends_in Raw padding = RawEnds padding
ends_in Demo padding = DemoEnds padding
ends_in SelfDelimited padding = SelfEnds padding

-- the job ended as its meaning has it over the records of its form
abbrev pub PackEnds : Job → ℕ → Outside → Outside → Type 0 → Ending → Type 0
PackEnds job = JobEnds job (settles_in (form_in job) (padding_in job)) (ends_in (form_in job) (padding_in job))
