-- Which job a list of words stands for, or why it stands for none.
use Rattle.std.specs.Prelude.{◌≡◌, ℕ, ◌&&◌, ◌∷◌, Bool, true, false, not, List, []}
use Rattle.std.specs.Prelude.{Option, Some, None}
use Rattle.std.specs.Prelude.{Result, Ok, Err, codes, find, if◌then◌else◌, is_some}
use Rattle.std.specs.Prelude.{option_and_then, slice_get}
use Rattle.std.specs.Option.{option_map_or}
use Rattle.clap.specs.Faults.{fault_of}
use Rattle.clap.specs.Kinds.{Kinds}
use Rattle.clap.specs.Words.{Row, first_of, matches_of}
use Rattle.opus_words.specs.CommandLine.{command_app, line_of}
use Rattle.opus_words.specs.Jobs.{form_within, forms_of, has_own_stream, is_self_of_many}
use Rattle.opus_words.specs.Jobs.{kind_named}
use Rattle.text_numbers.specs.Number.{number_within}
use Rattle.opus_words.specs.Options.{lack_of, option_name, options, row_of}
use Rattle.opus_words.specs.Paddings.{first_padding, padding_named}
use Rattle.opus_feed.specs.declared.padding.Padding.{Padding}
use Rattle.opus_words.specs.declared.fault.UsageKind.{UsageKind}
use Rattle.opus_words.specs.declared.fault.UsageKind.TheVariants as usage
use Rattle.opus_words.specs.declared.fault.WordsFault.{WordsFault}
use Rattle.opus_words.specs.declared.fault.WordsFault.TheVariants.{NoMemory, Usage}
use Rattle.opus_words.specs.declared.form.Form.{Form}
use Rattle.opus_words.specs.declared.job.Job.{Job}
use Rattle.opus_words.specs.declared.kind.JobKind.{JobKind}
use Rattle.opus_words.specs.declared.table.Lack.{Lack}
use Rattle.opus_words.specs.declared.table.Lack.TheVariants.{Needed, Number}
use Rattle.opus_words.specs.declared.option.Opt.{Opt}
use Rattle.opus_words.specs.declared.option.Opt.TheVariants as opt
use Rattle.opus_words.specs.declared.table.Values.{Values}
use Rattle.opus_words.specs.declared.table.Values.TheVariants.{Forms, Numbers, Paddings}

-- ---- the texts that the words give

-- the text given for an option
abbrev pub text_of : List Row → Opt → Option (List ℕ)
text_of rows o = first_of (option_name o) rows

-- the job that JOB names
abbrev pub kind_of : List Row → Option JobKind
kind_of rows = option_and_then kind_named (first_of (codes "job") rows)

-- ---- the three rules over the rows of the table

-- the option is given, and the job doesn't take it
abbrev pub is_foreign : JobKind → List Row → Opt → Bool
is_foreign kind rows o = is_some (text_of rows o) && not (is_some (lack_of o kind))

abbrev pub is_value_of : Values → JobKind → List ℕ → Bool
is_value_of Forms kind text = is_some (form_within kind text)
is_value_of (Numbers least most) kind text = is_some (number_within least most text)
is_value_of Paddings kind text = is_some (padding_named text)

-- the option is given, and its text is no value that the job allows
abbrev pub is_unfit : JobKind → List Row → Opt → Bool
is_unfit kind rows o =
    option_map_or (λ text. not (is_value_of (row_of o).values kind text)) (text_of rows o) false

abbrev pub is_need : Option Lack → Bool
is_need (Some Needed) = true
is_need _ = false

-- the job needs the option, and it isn't given
abbrev pub is_missing : JobKind → List Row → Opt → Bool
is_missing kind rows o = is_need (lack_of o kind) && not (is_some (text_of rows o))

-- ---- the values

abbrev pub number_in : Values → List ℕ → Option ℕ
number_in Forms text = None
number_in (Numbers least most) text = number_within least most text
number_in Paddings text = None

abbrev pub number_lacking : Lack → Option ℕ
number_lacking (Number n) = Some n
number_lacking _ = None

abbrev pub number_from : Option Lack → Values → Option (List ℕ) → Option ℕ
number_from None values text = None
number_from (Some lack) values None = number_lacking lack
number_from (Some lack) values (Some text) = number_in values text

-- the number of an option: the one given, or the default; none where the job doesn't take the
-- option, and where there is no default
abbrev pub number_of : JobKind → List Row → Opt → Option ℕ
number_of kind rows o = number_from (lack_of o kind) (row_of o).values (text_of rows o)

abbrev pub form_from : JobKind → Option (List ℕ) → Option Form
form_from kind None = slice_get (forms_of kind) 0
form_from kind (Some text) = form_within kind text

-- the form: the one given, or the job's first one; none where the job takes no form
abbrev pub form_of : JobKind → List Row → Option Form
form_of kind rows = form_from kind (text_of rows opt.Form)

abbrev pub padding_from : Option Lack → Option (List ℕ) → Option Padding
padding_from None text = None
padding_from (Some lack) None = Some first_padding
padding_from (Some lack) (Some text) = padding_named text

-- the padding: the one given, or the first one; none where the job doesn't take the option
abbrev pub padding_of : JobKind → List Row → Option Padding
padding_of kind rows = padding_from (lack_of opt.Padding kind) (text_of rows opt.Padding)

-- the job with its options
abbrev pub job_with : JobKind → List Row → Job
job_with kind rows = record {
  kind = kind;
  form = form_of kind rows;
  streams = number_of kind rows opt.Streams;
  stream = number_of kind rows opt.Stream;
  group = number_of kind rows opt.Group;
  frames = number_of kind rows opt.Frames;
  size = number_of kind rows opt.Size;
  pt = number_of kind rows opt.Pt;
  seq = number_of kind rows opt.Seq;
  stamp = number_of kind rows opt.Stamp;
  ssrc = number_of kind rows opt.Ssrc;
  seed = number_of kind rows opt.Seed;
  count = number_of kind rows opt.Count;
  padding = padding_of kind rows;
}

-- ---- the usage kinds in their order

-- the fault of the first such option, or what follows
abbrev pub first_fault : Option Opt → (Opt → UsageKind) → Result Job UsageKind
    → Result Job UsageKind
first_fault (Some o) fault next = Err (fault o)
first_fault None fault next = next

-- the rules between options
abbrev pub weighed : Job → Result Job UsageKind
weighed job =
    if not (has_own_stream job) then Err (usage.Value opt.Stream)
    else (if is_self_of_many job then Err (usage.Value opt.Streams) else Ok job)

-- first an option that isn't the job's, then a value that isn't allowed, then an option that is
-- missing, each the first one in the order of the table
abbrev pub judged : JobKind → List Row → Result Job UsageKind
judged kind rows =
    first_fault (find (is_foreign kind rows) options) usage.Option
    (first_fault (find (is_unfit kind rows) options) usage.Value
    (first_fault (find (is_missing kind rows) options) usage.Missing
    (weighed (job_with kind rows))))

abbrev pub judged_if_named : Option JobKind → List Row → Result Job UsageKind
judged_if_named None rows = Err usage.Job
judged_if_named (Some kind) rows = judged kind rows

-- the job of what `clap` found
abbrev pub job_of_rows : List Row → Result Job UsageKind
job_of_rows rows = judged_if_named (kind_of rows) rows

abbrev pub job_unless : Kinds → List Row → Result Job UsageKind
job_unless [] rows = job_of_rows rows
job_unless (fault ∷ faults) rows = Err usage.Words

-- the job of a line, the program's name and then the words: `clap` takes it as a simple command,
-- or the words are none of this program's; then JOB, the options and their values are judged
unfoldable pub job_of_line : List (List ℕ) → Result Job UsageKind
job_of_line line = job_unless (fault_of command_app line) (matches_of command_app line)

-- the job that the words stand for
abbrev pub job_of_words : List (List ℕ) → Result Job UsageKind
job_of_words words = job_of_line (line_of words)

-- a usage kind is that of the words; want of memory may come from any words
abbrev pub IsUsage : WordsFault → Result Job UsageKind → Type 0
IsUsage (Usage kind) meant = meant ≡ Err kind
IsUsage NoMemory meant = Unit {0}
