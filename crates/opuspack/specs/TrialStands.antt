-- What the object of the job trial stands for.
use Rattle.std.specs.Prelude.{◌≡◌, List, [], ◌∷◌, ◌++◌}
use Rattle.opuspack.specs.declared.made.MadeRecord.{MadeRecord}
use Rattle.opuspack.specs.declared.trial.Trial.{Trial}
use Rattle.opuspack.specs.declared.totals.Totals.{Totals}
use Rattle.opuspack.specs.Totals.{totals_of, told_totals}

-- it keeps the totals of the records that it took
abbrev pub TrialStands : Trial → List MadeRecord → Type 0
TrialStands t rs = t.totals ≡ told_totals (totals_of rs)

-- totals tell of one record more
abbrev pub Counts : Totals → MadeRecord → Totals → Type 0
Counts old r new =
    (rs : List MadeRecord) → old ≡ told_totals (totals_of rs) → new ≡ told_totals (totals_of (rs ++ r ∷ []))
