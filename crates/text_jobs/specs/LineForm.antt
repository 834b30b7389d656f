-- What the machine of lines stands for.
use Rattle.std.specs.Prelude.{◌≡◌, ℕ, ◌-◌, List, [], length, take}
use Rattle.job_loop.specs.Shown.{Shown}
use Rattle.text_jobs.specs.declared.line.Line.{Line}
use Rattle.text_jobs.specs.declared.lines.Mode.{Mode}
use Rattle.text_jobs.specs.declared.lines.Mode.TheVariants.{Fresh, Part, Kept}
use Rattle.text_jobs.specs.declared.lines.LineForm as form
use Rattle.text_jobs.specs.Lines.{joined, lines_at, LineFront}

-- the bytes of the line that isn't decided
abbrev pub rest_in : Mode → List ℕ → List ℕ
rest_in Fresh kept = []
rest_in Part kept = kept
rest_in Kept kept = []

-- the bytes of the line that stands, where these were taken last
abbrev pub lent_in : Mode → List ℕ → List ℕ → List ℕ
lent_in Fresh kept own = take (length own - 1) own
lent_in Part kept own = kept
lent_in Kept kept own = kept

abbrev pub shown_by : form.LineForm → List ℕ → Shown Line
shown_by f own = record { item = f.line; bytes = lent_in f.mode f.kept.items own }

-- these bytes came, and these lines stood; a line begins at `start` of which `rest` came
pub record LineStands (start : ℕ) (rest h : List ℕ) (rs : List (Shown Line)) : Type 0 where
  pub texts : List (List ℕ)
  pub front : LineFront h texts rest
  pub records_are : rs ≡ lines_at 0 texts
  pub start_is : start ≡ length (joined texts)
