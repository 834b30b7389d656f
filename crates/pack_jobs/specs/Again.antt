-- What norm wrote, read again.
use Rattle.std.specs.Prelude.{◌≡◌, ℕ, List, None}
use Rattle.job_loop.specs.Shown.{Shown}
use Rattle.job_loop.specs.Meaning.{going, outcome}
use Rattle.job_loop.specs.declared.input_end.InputEnd.TheVariants.{Closed}
use Rattle.opus_feed.specs.declared.padding.Padding.{Padding}
use Rattle.opus_words.specs.declared.form.Form.{Form}
use Rattle.pack_records.specs.declared.item.Item.{Item}
use Rattle.pack_jobs.specs.Norm.{norm}
use Rattle.pack_jobs.specs.PackEnds.{ends_in}
use Rattle.pack_jobs.specs.SameRecords.{AgreeOneByOne}

-- the text is a whole input of the form, its records agree with these, and norm leaves it as it is
pub record IsReadAgain (form : Form) (padding : Padding) (rs : List (Shown Item)) (text : List ℕ) : Type 0 where
  pub records : List (Shown Item)
  pub ends : ends_in form padding text records None
  pub agree : AgreeOneByOne rs records
  pub same : outcome (norm form padding) records Closed ≡ going text tt
