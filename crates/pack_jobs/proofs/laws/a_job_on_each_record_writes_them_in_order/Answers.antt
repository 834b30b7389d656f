use Rattle.job_ends.proofs.EachLemmas.{each_written, each_refused, each_cut}
use Rattle.pack_jobs.specs.Refusal.{cut_refusal}
use Rattle.pack_jobs.proofs.laws.a_job_on_each_record_writes_them_in_order.Goals as goal

pub returns-clause-written : goal.returns-clause-written
returns-clause-written c = each_written cut_refusal

pub returns-clause-refused : goal.returns-clause-refused
returns-clause-refused c = each_refused cut_refusal

pub returns-clause-cut : goal.returns-clause-cut
returns-clause-cut c = each_cut cut_refusal
