-- What the object of a job on each record stands for.
use Rattle.std.specs.Prelude.{◌≡◌, ℕ}
use Rattle.job_ends.specs.declared.each.Each.{Each}
use Rattle.job_ends.specs.Refusal.{told}

-- what makes something of each record
abbrev pub maker_of : {M : Type 0} → Each M → M
maker_of e = e.make

-- so many records were taken
abbrev pub EachStands : {M : Type 0} → Each M → ℕ → Type 0
EachStands e count = e.count ≡ told count
