-- Which call does a job; and a run that found no memory before it began.
use Rattle.std.proofs.Common.{◌≡◌, ◌⊎◌, [], inr, ◌≢◌, ℕ, ◌<◌, ◌^◌, List, Option, Result, Some, None, unwrap_or, nat_lt, Bool, IfSome, Ok, Err, IsSome, IsSomeAnd, true, false, inl, refl, sym, subst, arith}
use Rattle.std.proofs.KnownBytes.{Appends-nil}
use Rattle.std.proofs.lemmas.Bool.{ltb-false}
use Rattle.opus_io.specs.Outside.{Outside}
use Rattle.opus_words.specs.Fit.{IsFit, IsBetween, IsFormFor, IsNumberFor}
use Rattle.opus_words.specs.Jobs.{forms_of, is_self_and_many}
use Rattle.opus_words.specs.Options.{lack_of, row_of}
use Rattle.opus_words.specs.declared.ending.Ending.TheVariants.{NoMemory}
use Rattle.opus_words.specs.declared.fault.UsageKind.{UsageKind}
use Rattle.opus_words.specs.declared.form.Form.{Form}
use Rattle.opus_words.specs.declared.form.Form.TheVariants.{Raw, Demo, SelfDelimited}
use Rattle.opus_words.specs.declared.job.Job.{Job}
use Rattle.opus_words.specs.declared.kind.JobKind.{JobKind}
use Rattle.opus_words.specs.declared.kind.JobKind.TheVariants.{Norm, Check, Show, Merge, Split, Pad, Apart, Join, Extract, Head, Send, Recv, Replay, Sdp, Make, Trial}
use Rattle.opus_words.specs.declared.option.Opt.TheVariants as opt
use Rattle.pack_jobs.specs.PackEnds.{IsPackKind, IsPackJob, PackEnds, settles_in, ends_in}
use Rattle.job_ends.specs.Choices.{form_in, padding_in, stream_count}
use Rattle.pack_jobs.proofs.PackLemmas as packs
use Rattle.stream_jobs.specs.StreamEnds.{IsStreamKind, IsStreamForm, IsStreamJob, StreamEnds, form_by, form_of, choices_in}
use Rattle.stream_jobs.specs.StreamEnds as stream
use Rattle.stream_jobs.proofs.StreamLemmas as streams
use Rattle.stream_jobs.proofs.JoinEnds.{unstarted_join}
use Rattle.net_jobs.specs.NetEnds.{IsNetKind, IsNetJob}
use Rattle.net_jobs.proofs.NetLemmas.{unstarted_net}
use Rattle.opuspack.specs.declared.finish.Finish.TheVariants.{Ended}
use Rattle.opuspack.specs.Make.{made_store}
use Rattle.opuspack.specs.Trial.{trial_text}
use Rattle.opuspack.specs.WritesText.{WritesOnly}
use Rattle.job_ends.proofs.EndsLemmas.{unstarted_ends}
use Rattle.text_jobs.specs.Lines.{place_of, LineSettles, LineEnds}
use Rattle.text_jobs.specs.Sdp.{sdp, TellsSdp}
use Rattle.opuspack.proofs.HeadLemmas.{head_unstarted}
use Rattle.opuspack.specs.Run.{Meant, KindEnds, OverPackets, is_several, seed_in, count_in}

-- it is none of the jobs that another call does
pub record IsOther (kind : JobKind) : Type 0 where
  pub head : kind ≢ Head
  pub send : kind ≢ Send
  pub recv : kind ≢ Recv
  pub replay : kind ≢ Replay
  pub sdp : kind ≢ Sdp
  pub apart : kind ≢ Apart
  pub join : kind ≢ Join
  pub extract : kind ≢ Extract
  pub make : kind ≢ Make
  pub trial : kind ≢ Trial

-- a job that no other call does is over packets
pub is_pack_kind : (kind : JobKind) → IsOther kind → IsPackKind kind
is_pack_kind Norm other = tt
is_pack_kind Check other = tt
is_pack_kind Show other = tt
is_pack_kind Merge other = tt
is_pack_kind Split other = tt
is_pack_kind Pad other = tt
is_pack_kind Apart other = other.apart refl
is_pack_kind Join other = other.join refl
is_pack_kind Extract other = other.extract refl
is_pack_kind Head other = other.head refl
is_pack_kind Send other = other.send refl
is_pack_kind Recv other = other.recv refl
is_pack_kind Replay other = other.replay refl
is_pack_kind Sdp other = other.sdp refl
is_pack_kind Make other = other.make refl
is_pack_kind Trial other = other.trial refl

some_and : {T : Type 0} → (o : Option T) (P : T → Type 0) → IsSomeAnd o P → IsSome o
some_and None P is = absurd is
some_and (Some x) P is = refl

pack_form : (kind : JobKind) → IsPackKind kind → (form : Option Form) → IsFormFor (forms_of kind) form → IsSome form
pack_form Norm is form fits = some_and form _ fits
pack_form Check is form fits = some_and form _ fits
pack_form Show is form fits = some_and form _ fits
pack_form Merge is form fits = some_and form _ fits
pack_form Split is form fits = some_and form _ fits
pack_form Pad is form fits = some_and form _ fits
pack_form kind is form fits = absurd is

single : (streams : Option ℕ) → IsSomeAnd streams (IsBetween 1 255) → is_several streams ≡ false → IfSome streams (λ n. n ≡ 1)
single None between few = tt
single (Some n) between few = omega (arith, between, ltb-false 1 n few)

pack_streams : (kind : JobKind) → IsPackKind kind → (streams : Option ℕ)
    → IsNumberFor (row_of opt.Streams).values (lack_of opt.Streams kind) streams → is_several streams ≡ false
    → IfSome streams (λ n. n ≡ 1)
pack_streams Norm is streams number few = single streams number few
pack_streams Check is streams number few = single streams number few
pack_streams Show is streams number few = single streams number few
pack_streams Merge is streams number few = subst (λ o. IfSome o (λ n. n ≡ 1)) (sym number) tt
pack_streams Split is streams number few = subst (λ o. IfSome o (λ n. n ≡ 1)) (sym number) tt
pack_streams Pad is streams number few = subst (λ o. IfSome o (λ n. n ≡ 1)) (sym number) tt
pack_streams kind is streams number few = absurd is

pub is_pack_job : (job : Job) → IsFit job → IsPackKind job.kind → is_several job.streams ≡ false → IsPackJob job
is_pack_job job fit kind few = record {
  kind = kind;
  form = pack_form job.kind kind job.form fit.form;
  streams = pack_streams job.kind kind job.streams (fit.numbers opt.Streams) few;
}

-- ---- several streams

none_several : (streams : Option ℕ) → streams ≡ None → is_several streams ≡ true → ⊥
none_several None is many = absurd (cc)
none_several (Some n) is many = absurd (cc)

many_kind : (kind : JobKind) → IsPackKind kind → (streams : Option ℕ)
    → IsNumberFor (row_of opt.Streams).values (lack_of opt.Streams kind) streams → is_several streams ≡ true
    → IsStreamKind kind
many_kind Norm is streams number many = tt
many_kind Check is streams number many = tt
many_kind Show is streams number many = tt
many_kind Merge is streams number many = absurd (none_several streams number many)
many_kind Split is streams number many = absurd (none_several streams number many)
many_kind Pad is streams number many = absurd (none_several streams number many)
many_kind kind is streams number many = absurd is

-- the form of a job over multistream packets isn't self-delimited
stream_form : (form : Option Form) (streams : Option ℕ) → is_self_and_many form streams ≡ false → is_several streams ≡ true
    → IsStreamForm (unwrap_or form Raw)
stream_form None streams few many = tt
stream_form (Some Raw) streams few many = tt
stream_form (Some Demo) streams few many = tt
stream_form (Some SelfDelimited) None few many = absurd (cc)
stream_form (Some SelfDelimited) (Some n) few many = let e : nat_lt 1 n ≡ true = many in absurd (cc)

stream_form_of : (kind : JobKind) (form : Option Form) → IsStreamForm (unwrap_or form Raw) → IsStreamForm (form_by kind form)
stream_form_of Apart form is = tt
stream_form_of Extract form is = tt
stream_form_of Norm form is = is
stream_form_of Check form is = is
stream_form_of Show form is = is
stream_form_of Merge form is = is
stream_form_of Split form is = is
stream_form_of Pad form is = is
stream_form_of Join form is = is
stream_form_of Head form is = is
stream_form_of Send form is = is
stream_form_of Recv form is = is
stream_form_of Replay form is = is
stream_form_of Sdp form is = is
stream_form_of Make form is = is
stream_form_of Trial form is = is

pub is_many_job : (job : Job) → IsFit job → IsPackKind job.kind → is_several job.streams ≡ true → IsStreamJob job
is_many_job job fit kind many = record {
  kind = many_kind job.kind kind job.streams (fit.numbers opt.Streams) many;
  form = stream_form_of job.kind job.form (stream_form job.form job.streams fit.not_self_of_many many);
}

-- apart and extract take a store
parted_kind : (kind : JobKind) → (kind ≡ Apart) ⊎ (kind ≡ Extract) → IsStreamKind kind × ((form : Option Form) → IsStreamForm (form_by kind form))
parted_kind kind (inl is) =
    subst (λ k. IsStreamKind k × ((form : Option Form) → IsStreamForm (form_by k form))) (sym is) (tt, λ form. tt)
parted_kind kind (inr is) =
    subst (λ k. IsStreamKind k × ((form : Option Form) → IsStreamForm (form_by k form))) (sym is) (tt, λ form. tt)

pub is_parted_job : (job : Job) → (job.kind ≡ Apart) ⊎ (job.kind ≡ Extract) → IsStreamJob job
is_parted_job job is =
    let parted = parted_kind job.kind is in record { kind = parted.0; form = parted.1 job.form }

within_seven_bits : (pt : Option ℕ) → IsSomeAnd pt (IsBetween 0 127) → IfSome pt (λ n. n < 2 ^ 7)
within_seven_bits None between = tt
within_seven_bits (Some n) between = omega arith

pub net_kind : (kind : JobKind) → (kind ≡ Send) ⊎ ((kind ≡ Recv) ⊎ (kind ≡ Replay)) → IsNetKind kind
net_kind kind (inl is) = subst IsNetKind (sym is) tt
net_kind kind (inr (inl is)) = subst IsNetKind (sym is) tt
net_kind kind (inr (inr is)) = subst IsNetKind (sym is) tt

seven_bits : (kind : JobKind) → IsNetKind kind → (pt : Option ℕ)
    → IsNumberFor (row_of opt.Pt).values (lack_of opt.Pt kind) pt → IfSome pt (λ n. n < 2 ^ 7)
seven_bits Send is pt number = within_seven_bits pt number
seven_bits Recv is None number = tt
seven_bits Recv is (Some n) number = omega arith
seven_bits Replay is None number = tt
seven_bits Replay is (Some n) number = omega arith
seven_bits kind is pt number = absurd is

pub is_net_job : (job : Job) → IsNetKind job.kind → IsFit job → IsNetJob job
is_net_job job is fit = record { kind = is; pt = seven_bits job.kind is job.pt (fit.numbers opt.Pt) }

-- ---- memory ran out before anything was read or written

unwritten : (text : List ℕ) (outside : Outside) (Unread Unwritten : Type 0) → Unread → Unwritten
    → WritesOnly text outside outside Unread Unwritten NoMemory
unwritten text outside Unread Unwritten unread same = record {
  unread = unread;
  writes = record {
    written = record { count = 0; written = Appends-nil outside.contents };
    cause = record { written = refl; later = omega arith; wanted = λ is. inl same };
  };
}

pack_unstarted : (job : Job) (limit : ℕ) (outside : Outside) (Unread : Type 0) → Unread → IsPackKind job.kind
    → PackEnds job limit outside outside Unread NoMemory
pack_unstarted job limit outside Unread unread pack =
    let form = form_in job in
    let padding = padding_in job in
    packs.unstarted_kind job.kind pack job (settles_in form padding) (ends_in form padding) limit outside Unread unread
    (packs.none_settled form padding)

stream_unstarted : (job : Job) (limit : ℕ) (outside : Outside) (Unread : Type 0) → Unread → IsStreamJob job
    → StreamEnds job limit outside outside Unread NoMemory
stream_unstarted job limit outside Unread unread is =
    streams.unstarted_kind job.kind is.kind job (stream.settles_in (form_of job) (choices_in job))
    (stream.ends_in (form_of job) (choices_in job)) limit outside Unread unread
    (streams.none_settled (form_of job) (choices_in job) is.form)

over_unstarted : (several : Bool) (job : Job) (limit : ℕ) (outside : Outside) (Unread : Type 0) → Unread
    → is_several job.streams ≡ several → IsFit job → IsPackKind job.kind
    → OverPackets several job limit outside outside Unread NoMemory
over_unstarted true job limit outside Unread unread is fit kind =
    stream_unstarted job limit outside Unread unread (is_many_job job fit kind is)
over_unstarted false job limit outside Unread unread is fit kind = pack_unstarted job limit outside Unread unread kind

packets_unstarted : (job : Job) (limit : ℕ) (outside : Outside) (Unread : Type 0) → Unread → IsFit job
    → IsPackKind job.kind → OverPackets (is_several job.streams) job limit outside outside Unread NoMemory
packets_unstarted job limit outside Unread unread fit kind =
    over_unstarted (is_several job.streams) job limit outside Unread unread refl fit kind

unstarted : (kind : JobKind) (job : Job) (limit : ℕ) (outside : Outside) (Unread Unwritten : Type 0) → Unread → Unwritten
    → IsFit job → job.kind ≡ kind → KindEnds kind job limit outside outside Unread Unwritten NoMemory
unstarted Head job limit outside Unread Unwritten unread same fit is = head_unstarted limit outside
unstarted Make job limit outside Unread Unwritten unread same fit is =
    unwritten (made_store (seed_in job) (count_in job)) outside Unread Unwritten unread same
unstarted Trial job limit outside Unread Unwritten unread same fit is =
    unwritten (trial_text (seed_in job) (count_in job)) outside Unread Unwritten unread same
unstarted Norm job limit outside Unread Unwritten unread same fit is =
    packets_unstarted job limit outside Unread unread fit (subst IsPackKind (sym is) tt)
unstarted Check job limit outside Unread Unwritten unread same fit is =
    packets_unstarted job limit outside Unread unread fit (subst IsPackKind (sym is) tt)
unstarted Show job limit outside Unread Unwritten unread same fit is =
    packets_unstarted job limit outside Unread unread fit (subst IsPackKind (sym is) tt)
unstarted Merge job limit outside Unread Unwritten unread same fit is =
    packets_unstarted job limit outside Unread unread fit (subst IsPackKind (sym is) tt)
unstarted Pad job limit outside Unread Unwritten unread same fit is =
    packets_unstarted job limit outside Unread unread fit (subst IsPackKind (sym is) tt)
unstarted Split job limit outside Unread Unwritten unread same fit is =
    packets_unstarted job limit outside Unread unread fit (subst IsPackKind (sym is) tt)
unstarted Apart job limit outside Unread Unwritten unread same fit is =
    stream_unstarted job limit outside Unread unread (is_parted_job job (inl is))
unstarted Extract job limit outside Unread Unwritten unread same fit is =
    stream_unstarted job limit outside Unread unread (is_parted_job job (inr is))
unstarted Join job limit outside Unread Unwritten unread same fit is =
    unstarted_join (stream_count job) limit outside Unread unread
unstarted Send job limit outside Unread Unwritten unread same fit is =
    unstarted_net job.kind (subst IsNetKind (sym is) tt) job limit outside Unread unread
unstarted Recv job limit outside Unread Unwritten unread same fit is =
    unstarted_net job.kind (subst IsNetKind (sym is) tt) job limit outside Unread unread
unstarted Replay job limit outside Unread Unwritten unread same fit is =
    unstarted_net job.kind (subst IsNetKind (sym is) tt) job limit outside Unread unread
unstarted Sdp job limit outside Unread Unwritten unread same fit is =
    unstarted_ends TellsSdp place_of sdp LineSettles LineEnds limit outside (Unit {0}) tt
    ([], [], record { parts = refl; lines = refl; last = refl }, refl)

pub meant_no_memory : {S O : Type 0} (said : Result Job UsageKind) (limit : ℕ) (seen : S → O → Outside) (source : S)
    (out : O) → ((job : Job) → said ≡ Ok job → IsFit job)
    → Meant said limit (Ended NoMemory) seen source source out out
meant_no_memory (Ok job) limit seen source out fits =
    unstarted job.kind job limit (seen source out) (source ≡ source) (out ≡ out) refl refl (fits job refl) refl
meant_no_memory (Err kind) limit seen source out fits = (refl, refl, refl)
