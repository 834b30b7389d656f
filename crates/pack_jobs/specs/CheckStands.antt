-- What the object of the job check stands for.
use Rattle.std.specs.Prelude.{◌≡◌}
use Rattle.job_loop.specs.Shown.{Shown}
use Rattle.job_loop.specs.Meaning.{Meaning}
use Rattle.pack_records.specs.declared.cut.Cut.{Cut}
use Rattle.pack_records.specs.declared.item.Item.{Item}
use Rattle.pack_jobs.specs.declared.check.Check.{Check}
use Rattle.pack_jobs.specs.Refusal.{Refusal}
use Rattle.job_ends.specs.Refusal.{told}
use Rattle.pack_jobs.specs.Check.{check, CheckKept}

-- the job over records of the object's form
abbrev pub check_job : Check → Meaning (Shown Item) CheckKept Cut Refusal
check_job c = check c.form

pub record CheckStands (c : Check) (k : CheckKept) : Type 0 where
  pub count : c.count ≡ told k.count
  pub first : c.first ≡ k.first
