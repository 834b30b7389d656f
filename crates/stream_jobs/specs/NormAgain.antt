-- What norm wrote of multistream packets, read again.
use Rattle.std.specs.Prelude.{◌≡◌, ℕ, List, None}
use Rattle.job_loop.specs.Shown.{Shown}
use Rattle.job_loop.specs.Meaning.{going, outcome}
use Rattle.job_loop.specs.declared.input_end.InputEnd.TheVariants.{Closed}
use Rattle.opus_words.specs.declared.form.Form.{Form}
use Rattle.stream_records.specs.declared.item.StreamsItem.{StreamsItem}
use Rattle.stream_records.specs.Holds.{Choices}
use Rattle.stream_jobs.specs.Norm.{norm}
use Rattle.stream_jobs.specs.StreamEnds.{ends_in}
use Rattle.stream_jobs.specs.Contents.{Content, AreContents}

-- the text is a whole input of the form, its records hold what these hold, and norm leaves it as it is
pub record IsNormAgain (form : Form) (c : Choices) (rs : List (Shown StreamsItem)) (text : List ℕ) : Type 0 where
  pub records : List (Shown StreamsItem)
  pub ends : ends_in form c text records None
  pub contents : List Content
  pub held : AreContents form c rs contents
  pub again : AreContents form c records contents
  pub same : outcome (norm form c.streams c.padding) records Closed ≡ going text tt
