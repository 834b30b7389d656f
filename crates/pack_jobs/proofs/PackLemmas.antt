-- A run of a job over packets: want of memory, and the places of records.
use Rattle.std.proofs.Common.{◌≡◌, ℕ, List, [], Option, inr, refl, sym, subst, arith}
use Rattle.opus_io.specs.Outside.{Outside}
use Rattle.job_loop.specs.Shown.{Shown}
use Rattle.opus_feed.specs.declared.framing.Framing.TheVariants.{Whole}
use Rattle.opus_feed.specs.declared.padding.Padding.{Padding}
use Rattle.opus_words.specs.declared.ending.Ending as program
use Rattle.opus_words.specs.declared.ending.Ending.TheVariants.{NoMemory}
use Rattle.opus_words.specs.declared.form.Form.{Form}
use Rattle.opus_words.specs.declared.form.Form.TheVariants.{Raw, Demo, SelfDelimited}
use Rattle.opus_words.specs.declared.job.Job.{Job}
use Rattle.opus_words.specs.declared.kind.JobKind.{JobKind}
use Rattle.opus_words.specs.declared.kind.JobKind.TheVariants as kinds
use Rattle.rec_store.proofs.DemoLemmas.{NoWholeRecord-short}
use Rattle.pack_records.specs.declared.cut.Cut.{Cut}
use Rattle.pack_records.specs.declared.item.Item.{Item}
use Rattle.pack_records.specs.SettledLaws.{early_nil}
use Rattle.pack_records.proofs.DemoFronts.{undecided_short}
use Rattle.pack_records.proofs.ShowsLemmas.{none_first, nil_early}
use Rattle.job_ends.proofs.EndsLemmas.{unstarted_ends}
use Rattle.pack_jobs.specs.Refusal.{Tells}
use Rattle.pack_jobs.specs.Norm.{norm}
use Rattle.pack_jobs.specs.Check.{check}
use Rattle.pack_jobs.specs.Show.{show}
use Rattle.pack_jobs.specs.Merge.{merge}
use Rattle.pack_jobs.specs.Split.{split}
use Rattle.pack_jobs.specs.Pad.{pad}
use Rattle.pack_jobs.specs.PackEnds.{place_of, KindEnds, JobEnds, PackEnds, IsPackKind, most_in, size_in, settles_in, ends_in}
use Rattle.job_ends.specs.Choices.{form_in, padding_in}

-- memory ran out before the first read

pub unstarted_kind : (kind : JobKind) → IsPackKind kind → (job : Job)
    (Settles : List ℕ → List (Shown Item) → Type 0) (Ends : List ℕ → List (Shown Item) → Option Cut → Type 0)
    (limit : ℕ) (outside : Outside) (Untouched : Type 0) → Untouched → Settles [] []
    → KindEnds kind job Settles Ends limit outside outside Untouched NoMemory
unstarted_kind kinds.Norm is job = unstarted_ends Tells place_of (norm (form_in job) (padding_in job))
unstarted_kind kinds.Check is job = unstarted_ends Tells place_of (check (form_in job))
unstarted_kind kinds.Show is job = unstarted_ends Tells place_of show
unstarted_kind kinds.Merge is job = unstarted_ends Tells place_of (merge (form_in job) job.group)
unstarted_kind kinds.Split is job = unstarted_ends Tells place_of (split (form_in job) (most_in job))
unstarted_kind kinds.Pad is job = unstarted_ends Tells place_of (pad (form_in job) (size_in job))
unstarted_kind kinds.Apart is job = absurd is
unstarted_kind kinds.Join is job = absurd is
unstarted_kind kinds.Extract is job = absurd is
unstarted_kind kinds.Head is job = absurd is
unstarted_kind kinds.Send is job = absurd is
unstarted_kind kinds.Recv is job = absurd is
unstarted_kind kinds.Replay is job = absurd is
unstarted_kind kinds.Sdp is job = absurd is
unstarted_kind kinds.Make is job = absurd is
unstarted_kind kinds.Trial is job = absurd is

-- no bytes settle no records

pub none_settled : (form : Form) (padding : Padding) → settles_in form padding [] []
none_settled Raw padding = record { are_bytes = tt; records_are = sym (early_nil Whole 0 [] (omega arith)) }
none_settled Demo padding = (
  [],
  record {
    are_bytes = tt;
    whole = [];
    are = tt;
    parts = refl;
    none = NoWholeRecord-short [] (omega arith);
    shows = inr record { undecided = undecided_short [] (omega arith); shows = refl };
  },
)
none_settled SelfDelimited padding = (
  [],
  record { are_bytes = tt; packets = []; parts = refl; none = none_first; shows = sym (nil_early 0) },
)

-- the records are those of the job's form
pub by_form : (job : Job) (limit : ℕ) (before after : Outside) (Untouched : Type 0) (result : program.Ending) (form : Form)
    (padding : Padding) → form ≡ form_in job → padding ≡ padding_in job
    → JobEnds job (settles_in form padding) (ends_in form padding) limit before after Untouched result
    → PackEnds job limit before after Untouched result
by_form job limit before after Untouched result form padding form_is padding_is ends =
    subst (λ p. JobEnds job (settles_in (form_in job) p) (ends_in (form_in job) p) limit before after Untouched result) padding_is
    (subst (λ f. JobEnds job (settles_in f padding) (ends_in f padding) limit before after Untouched result) form_is ends)
