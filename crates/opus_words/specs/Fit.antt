-- What holds of each job that words stand for: its options are those of the table.
use Rattle.std.specs.Prelude.{◌≡◌, ◌≤◌, ℕ, true, false, List, [], ◌∷◌, Option, Some, None, IfSome}
use Rattle.std.specs.Prelude.{IsSome, IsSomeAnd}
use Rattle.std.specs.List.{list_any}
use Rattle.opus_words.specs.Jobs.{forms_of, has_own_stream, is_form, is_self_of_many}
use Rattle.opus_words.specs.Options.{lack_of, row_of}
use Rattle.opus_feed.specs.declared.padding.Padding.{Padding}
use Rattle.opus_words.specs.declared.form.Form.{Form}
use Rattle.opus_words.specs.declared.job.Job.{Job}
use Rattle.opus_words.specs.declared.option.Opt.{Opt}
use Rattle.opus_words.specs.declared.option.Opt.TheVariants as opt
use Rattle.opus_words.specs.declared.table.Lack.{Lack}
use Rattle.opus_words.specs.declared.table.Lack.TheVariants.{Needed, Open, FirstWord, Number}
use Rattle.opus_words.specs.declared.table.Values.{Values}
use Rattle.opus_words.specs.declared.table.Values.TheVariants.{Forms, Numbers, Paddings}

-- the number of an option in a job
abbrev pub number_at : Job → Opt → Option ℕ
number_at job opt.Form = None
number_at job opt.Streams = job.streams
number_at job opt.Stream = job.stream
number_at job opt.Group = job.group
number_at job opt.Frames = job.frames
number_at job opt.Size = job.size
number_at job opt.Pt = job.pt
number_at job opt.Seq = job.seq
number_at job opt.Stamp = job.stamp
number_at job opt.Ssrc = job.ssrc
number_at job opt.Seed = job.seed
number_at job opt.Count = job.count
number_at job opt.Padding = None

abbrev pub IsBetween : ℕ → ℕ → ℕ → Type 0
IsBetween least most n = (least ≤ n) × (n ≤ most)

-- a number where the job needs the option or has a default, and none where it doesn't take it;
-- each number lies within the option's bounds
abbrev pub IsNumberFor : Values → Option Lack → Option ℕ → Type 0
IsNumberFor Forms lack number = number ≡ None
IsNumberFor Paddings lack number = number ≡ None
IsNumberFor (Numbers least most) None number = number ≡ None
IsNumberFor (Numbers least most) (Some Needed) number = IsSomeAnd number (IsBetween least most)
IsNumberFor (Numbers least most) (Some (Number n)) number = IsSomeAnd number (IsBetween least most)
IsNumberFor (Numbers least most) (Some Open) number = IfSome number (IsBetween least most)
IsNumberFor (Numbers least most) (Some FirstWord) number = IfSome number (IsBetween least most)

-- one of the job's forms, and none where it takes no form
abbrev pub IsFormFor : List Form → Option Form → Type 0
IsFormFor [] form = form ≡ None
IsFormFor (f ∷ fs) form = IsSomeAnd form (λ x. list_any (is_form x) (f ∷ fs) ≡ true)

-- one of both where the job takes the option, and none where it doesn't
abbrev pub IsPaddingFor : Option Lack → Option Padding → Type 0
IsPaddingFor None padding = padding ≡ None
IsPaddingFor (Some lack) padding = IsSome padding

pub record IsFit (job : Job) : Type 0 where
  pub numbers : (o : Opt) → IsNumberFor (row_of o).values (lack_of o job.kind) (number_at job o)
  pub form : IsFormFor (forms_of job.kind) job.form
  pub padding : IsPaddingFor (lack_of opt.Padding job.kind) job.padding
  pub own_stream : has_own_stream job ≡ true
  pub not_self_of_many : is_self_of_many job ≡ false
