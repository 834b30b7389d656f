use Rattle.net_jobs.proofs.FewLemmas.{capture_few}
use Rattle.net_jobs.proofs.ReportLemmas.{runs_whole, closed_whole, cut_whole, refused_whole}
use Rattle.net_jobs.proofs.laws.what_arrives_is_told_whole.Goals as goal

pub returns-clause-settled : goal.returns-clause-settled
returns-clause-settled c = runs_whole

pub returns-clause-closed : goal.returns-clause-closed
returns-clause-closed c = closed_whole

pub returns-clause-cut : goal.returns-clause-cut
returns-clause-cut c = cut_whole

pub returns-clause-refused : goal.returns-clause-refused
returns-clause-refused c = refused_whole

pub returns-clause-few : goal.returns-clause-few
returns-clause-few c = capture_few
