use Rattle.job_loop.proofs.FirstLemmas.{first_is_bad, bad_is_first}
use Rattle.job_loop.proofs.laws.the_first_bad_record_has_the_first_fault.Goals as goal

pub returns : goal.returns
returns g c = λ place faults rs f order rise.
    (first_is_bad place faults rs f order rise, bad_is_first place faults rs f order rise)
