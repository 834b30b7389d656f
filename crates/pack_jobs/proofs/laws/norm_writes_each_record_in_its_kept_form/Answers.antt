use Rattle.pack_jobs.proofs.NormLemmas.{norm_taken, refused_outcome, cut_outcome}
use Rattle.pack_jobs.proofs.laws.norm_writes_each_record_in_its_kept_form.Goals as goal

pub returns-clause-taken : goal.returns-clause-taken
returns-clause-taken c = norm_taken

pub returns-clause-refused : goal.returns-clause-refused
returns-clause-refused c = refused_outcome

pub returns-clause-cut : goal.returns-clause-cut
returns-clause-cut c = cut_outcome
