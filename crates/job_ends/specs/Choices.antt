-- What the words say of the input of a job.
use Rattle.std.specs.Prelude.{ℕ, unwrap_or, max}
use Rattle.opus_feed.specs.declared.padding.Padding.{Padding}
use Rattle.opus_feed.specs.declared.padding.Padding.TheVariants.{Drop}
use Rattle.opus_words.specs.declared.form.Form.{Form}
use Rattle.opus_words.specs.declared.form.Form.TheVariants.{Raw}
use Rattle.opus_words.specs.declared.job.Job.{Job}

-- the form of the input, and what becomes of padding bytes: they are dropped where the job takes no such option
abbrev pub form_in : Job → Form
form_in job = unwrap_or job.form Raw

abbrev pub padding_in : Job → Padding
padding_in job = unwrap_or job.padding Drop

-- how many streams a packet has, or records a group: one at least, also where the words name none
abbrev pub stream_count : Job → ℕ
stream_count job = max 1 (unwrap_or job.streams 1)
