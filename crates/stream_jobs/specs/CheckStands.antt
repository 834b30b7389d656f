-- What the object of the job check stands for.
use Rattle.std.specs.Prelude.{◌≡◌}
use Rattle.job_ends.specs.Refusal.{told}
use Rattle.stream_jobs.specs.declared.check.Check.{Check}
use Rattle.stream_jobs.specs.Check.{CheckKept}

pub record CheckStands (c : Check) (k : CheckKept) : Type 0 where
  pub count : c.count ≡ told k.count
  pub first : c.first ≡ k.first
