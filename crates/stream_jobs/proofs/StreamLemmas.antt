-- A run of a job over multistream packets: want of memory, and the records of its form.
use Rattle.std.proofs.Common.{◌≡◌, ℕ, List, [], Option, inr, refl, sym, subst, arith}
use Rattle.opus_io.specs.Outside.{Outside}
use Rattle.job_loop.specs.Shown.{Shown}
use Rattle.job_loop.specs.Meaning.{Meaning}
use Rattle.opus_feed.specs.declared.padding.Padding.{Padding}
use Rattle.opus_words.specs.declared.ending.Ending as program
use Rattle.opus_words.specs.declared.ending.Ending.TheVariants.{NoMemory}
use Rattle.opus_words.specs.declared.form.Form.{Form}
use Rattle.opus_words.specs.declared.form.Form.TheVariants.{Raw, Demo, SelfDelimited}
use Rattle.opus_words.specs.declared.job.Job.{Job}
use Rattle.opus_words.specs.declared.kind.JobKind.{JobKind}
use Rattle.opus_words.specs.declared.kind.JobKind.TheVariants as kinds
use Rattle.rec_store.proofs.DemoLemmas.{NoWholeRecord-short}
use Rattle.pack_records.specs.declared.cut.Cut.{Cut}
use Rattle.stream_records.specs.declared.item.StreamsItem.{StreamsItem}
use Rattle.stream_records.specs.Holds.{Choices, ShowsEarly}
use Rattle.stream_records.specs.HoldsLaws.{stand_sizes}
use Rattle.stream_records.proofs.DemoFronts.{undecided_short}
use Rattle.job_ends.specs.Choices.{padding_in, stream_count}
use Rattle.job_ends.proofs.EndsLemmas.{unstarted_ends}
use Rattle.stream_jobs.specs.Refusal.{Tells, StreamRefusal}
use Rattle.stream_jobs.specs.Norm.{norm}
use Rattle.stream_jobs.specs.Check.{check}
use Rattle.stream_jobs.specs.Show.{show}
use Rattle.stream_jobs.specs.Apart.{apart}
use Rattle.stream_jobs.specs.Extract.{extract}
use Rattle.stream_jobs.specs.StreamEnds.{place_of, KindEnds, MeaningEnds, FormEnds, StreamEnds, IsStreamKind, IsStreamForm, form_of, stream_of, choices_in, settles_in, ends_in}

-- memory ran out before the first read

pub unstarted_kind : (kind : JobKind) → IsStreamKind kind → (job : Job)
    (Settles : List ℕ → List (Shown StreamsItem) → Type 0)
    (Ends : List ℕ → List (Shown StreamsItem) → Option Cut → Type 0) (limit : ℕ) (outside : Outside)
    (Untouched : Type 0) → Untouched → Settles [] []
    → KindEnds kind job Settles Ends limit outside outside Untouched NoMemory
unstarted_kind kinds.Norm is job =
    unstarted_ends Tells place_of (norm (form_of job) (stream_count job) (padding_in job))
unstarted_kind kinds.Check is job = unstarted_ends Tells place_of (check (stream_count job))
unstarted_kind kinds.Show is job = unstarted_ends Tells place_of (show (stream_count job))
unstarted_kind kinds.Merge is job = absurd is
unstarted_kind kinds.Split is job = absurd is
unstarted_kind kinds.Pad is job = absurd is
unstarted_kind kinds.Apart is job = unstarted_ends Tells place_of (apart (stream_count job))
unstarted_kind kinds.Join is job = absurd is
unstarted_kind kinds.Extract is job = unstarted_ends Tells place_of (extract (stream_count job) (stream_of job))
unstarted_kind kinds.Head is job = absurd is
unstarted_kind kinds.Send is job = absurd is
unstarted_kind kinds.Recv is job = absurd is
unstarted_kind kinds.Replay is job = absurd is
unstarted_kind kinds.Sdp is job = absurd is
unstarted_kind kinds.Make is job = absurd is
unstarted_kind kinds.Trial is job = absurd is

-- no bytes settle no records

none_early : (count : ℕ) (r : Shown StreamsItem) → ShowsEarly count 0 0 [] r → ⊥
none_early count r e =
    let b = e.holds.broken in
    let early = e.early in omega (arith, early, stand_sizes b.first [] b.rest b.stand)

pub none_settled : (form : Form) (c : Choices) → IsStreamForm form → settles_in form c [] []
none_settled Raw c is =
    record { are_bytes = tt; shows = inr record { undecided = none_early c.streams; records_are = refl } }
none_settled Demo c is = (
  [],
  record {
    are_bytes = tt;
    whole = [];
    are = tt;
    parts = refl;
    none = NoWholeRecord-short [] (omega arith);
    shows = inr record { undecided = undecided_short c.streams [] (omega arith); shows = refl };
  },
)
none_settled SelfDelimited c is = absurd is

-- the records are those of the job's form
pub by_form : {K : Type 0} → (job : Job) (m : Meaning (Shown StreamsItem) K Cut StreamRefusal) (limit : ℕ)
    (before after : Outside) (Untouched : Type 0) (result : program.Ending) (form : Form) (c : Choices) → form ≡ form_of job
    → c ≡ choices_in job → MeaningEnds m (settles_in form c) (ends_in form c) limit before after Untouched result
    → FormEnds job m limit before after Untouched result
by_form job m limit before after Untouched result form c form_is c_is ends =
    subst (λ d. MeaningEnds m (settles_in (form_of job) d) (ends_in (form_of job) d) limit before after Untouched result) c_is
    (subst (λ f. MeaningEnds m (settles_in f c) (ends_in f c) limit before after Untouched result) form_is ends)

-- the choices that a form was made with
pub choices_are : (job : Job) (streams : ℕ) (padding : Padding) → streams ≡ stream_count job → padding ≡ padding_in job
    → record { streams = streams; padding = padding } ≡ choices_in job
choices_are job streams padding streams_is padding_is = rw (streams_is, padding_is) refl

-- the job is of this kind
pub of_kind : (kind : JobKind) (job : Job) (limit : ℕ) (before after : Outside) (Untouched : Type 0) (result : program.Ending)
    → job.kind ≡ kind
    → KindEnds kind job (settles_in (form_of job) (choices_in job)) (ends_in (form_of job) (choices_in job)) limit before after
    Untouched result
    → StreamEnds job limit before after Untouched result
of_kind kind job limit before after Untouched result is ends =
    let c = choices_in job in
    subst (λ k. KindEnds k job (settles_in (form_of job) c) (ends_in (form_of job) c) limit before after Untouched result)
    (sym is) ends
