-- The jobs: their names, and the forms that each takes.
use Rattle.std.specs.Prelude.{ℕ, Bool, true, false, List, [], ◌∷◌}
use Rattle.std.specs.Prelude.{Option, Some, codes, find}
use Rattle.std.specs.Prelude.{nat_lt}
use Rattle.std.specs.Str.{bytes_eq}
use Rattle.opus_words.specs.declared.form.Form.{Form}
use Rattle.opus_words.specs.declared.form.Form.TheVariants.{Raw, Demo, SelfDelimited}
use Rattle.opus_words.specs.declared.job.Job.{Job}
use Rattle.opus_words.specs.declared.kind.JobKind.{JobKind}
use Rattle.opus_words.specs.declared.kind.JobKind.TheVariants.{Norm, Check, Show, Merge, Split, Pad}
use Rattle.opus_words.specs.declared.kind.JobKind.TheVariants.{Apart, Join, Extract, Head, Send}
use Rattle.opus_words.specs.declared.kind.JobKind.TheVariants.{Recv, Replay, Sdp, Make, Trial}

abbrev pub job_name : JobKind → List ℕ
job_name Norm = codes "norm"
job_name Check = codes "check"
job_name Show = codes "show"
job_name Merge = codes "merge"
job_name Split = codes "split"
job_name Pad = codes "pad"
job_name Apart = codes "apart"
job_name Join = codes "join"
job_name Extract = codes "extract"
job_name Head = codes "head"
job_name Send = codes "send"
job_name Recv = codes "recv"
job_name Replay = codes "replay"
job_name Sdp = codes "sdp"
job_name Make = codes "make"
job_name Trial = codes "trial"

abbrev pub kinds : List JobKind
kinds = Norm ∷ Check ∷ Show ∷ Merge ∷ Split ∷ Pad ∷ Apart ∷ Join ∷ Extract ∷ Head ∷ Send ∷ Recv
    ∷ Replay ∷ Sdp ∷ Make ∷ Trial ∷ []

-- the job of this name
abbrev pub kind_named : List ℕ → Option JobKind
kind_named name = find (λ kind. bytes_eq (job_name kind) name) kinds

-- two jobs are one
abbrev pub is_kind : JobKind → JobKind → Bool
is_kind Norm Norm = true
is_kind Check Check = true
is_kind Show Show = true
is_kind Merge Merge = true
is_kind Split Split = true
is_kind Pad Pad = true
is_kind Apart Apart = true
is_kind Join Join = true
is_kind Extract Extract = true
is_kind Head Head = true
is_kind Send Send = true
is_kind Recv Recv = true
is_kind Replay Replay = true
is_kind Sdp Sdp = true
is_kind Make Make = true
is_kind Trial Trial = true
is_kind _ _ = false

abbrev pub form_name : Form → List ℕ
form_name Raw = codes "raw"
form_name Demo = codes "demo"
form_name SelfDelimited = codes "self"

-- the forms that `--form` chooses from, the default first
abbrev pub forms_of : JobKind → List Form
forms_of Norm = Raw ∷ Demo ∷ SelfDelimited ∷ []
forms_of Check = Raw ∷ Demo ∷ SelfDelimited ∷ []
forms_of Show = Raw ∷ Demo ∷ SelfDelimited ∷ []
forms_of Merge = Demo ∷ SelfDelimited ∷ []
forms_of Split = Demo ∷ SelfDelimited ∷ []
forms_of Pad = Raw ∷ Demo ∷ []
forms_of _ = []

-- the form of this name, among those of the job
abbrev pub form_within : JobKind → List ℕ → Option Form
form_within kind name = find (λ form. bytes_eq (form_name form) name) (forms_of kind)

-- ---- rules between options

abbrev pub is_below : Option ℕ → Option ℕ → Bool
is_below (Some stream) (Some streams) = nat_lt stream streams
is_below _ _ = true

-- no stream is named, or one below the number of streams
abbrev pub has_own_stream : Job → Bool
has_own_stream job = is_below job.stream job.streams

abbrev pub is_self_and_many : Option Form → Option ℕ → Bool
is_self_and_many (Some SelfDelimited) (Some streams) = nat_lt 1 streams
is_self_and_many _ _ = false

-- self-delimited packets of several streams
abbrev pub is_self_of_many : Job → Bool
is_self_of_many job = is_self_and_many job.form job.streams

-- two forms are one
abbrev pub is_form : Form → Form → Bool
is_form Raw Raw = true
is_form Demo Demo = true
is_form SelfDelimited SelfDelimited = true
is_form _ _ = false
