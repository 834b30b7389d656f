-- The command that `clap` reads the words by.
use Rattle.std.specs.Prelude.{ℕ, List, ◌∷◌, Some, true, codes, fold}
use Rattle.clap.specs.Words.{App, Rule, new_app, new_rule, with_rule}
use Rattle.clap.specs.declared.builder.ArgAction.TheVariants.{Set}
use Rattle.opus_words.specs.declared.option.Opt.{Opt}
use Rattle.opus_words.specs.Options.{option_name, options}

-- the words as `clap` takes them: the program's name first
abbrev pub line_of : List (List ℕ) → List (List ℕ)
line_of words = codes "opuspack" ∷ words

-- JOB, the one positional argument, which is required
abbrev pub job_rule : Rule
job_rule = record (new_rule (codes "job")) { required = true; action = Some Set }

-- `--NAME`, with one value that is taken as text
abbrev pub option_rule : List ℕ → Rule
option_rule name = record (new_rule name) { long = Some name; action = Some Set }

-- the command with these options more
abbrev pub with_options : App → List Opt → App
with_options app opts = fold (λ a opt. with_rule a (option_rule (option_name opt))) app opts

-- the command with JOB alone
abbrev pub job_app : App
job_app = with_rule (new_app (codes "opuspack")) job_rule

-- the whole command: JOB, and then the options in the order of the table
unfoldable pub command_app : App
command_app = with_options job_app options
