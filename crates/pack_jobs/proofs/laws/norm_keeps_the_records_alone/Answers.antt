use Rattle.pack_jobs.proofs.SameLemmas.{norm_same, one_form}
use Rattle.pack_jobs.proofs.HeldLemmas.{norm_records, held-kept, held-dropped}
use Rattle.pack_jobs.proofs.laws.norm_keeps_the_records_alone.Goals as goal

pub returns-clause-same : goal.returns-clause-same
returns-clause-same c = norm_same

pub returns-clause-forms : goal.returns-clause-forms
returns-clause-forms c = one_form

pub returns-clause-records : goal.returns-clause-records
returns-clause-records c = norm_records

pub returns-clause-kept : goal.returns-clause-kept
returns-clause-kept c = held-kept

pub returns-clause-dropped : goal.returns-clause-dropped
returns-clause-dropped c = held-dropped
