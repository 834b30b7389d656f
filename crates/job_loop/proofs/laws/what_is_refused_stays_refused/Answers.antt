use Rattle.job_loop.specs.Meaning.{end_of}
use Rattle.job_loop.proofs.JudgeLemmas.{refused_on}
use Rattle.job_loop.proofs.LawLemmas.{refused_alike, refused_for_good}
use Rattle.job_loop.proofs.laws.what_is_refused_stays_refused.Goals as goal

pub returns-clause-longer : goal.returns-clause-longer
returns-clause-longer g c = λ l m h more a b f f' p q.
    refused_alike m (g.F.Form.settles l) (g.met.F.Form.grows l) h more a b f f' p q

pub returns-clause-never_clear : goal.returns-clause-never_clear
returns-clause-never_clear g c = λ l m h more a b f p q.
    refused_for_good m (g.F.Form.settles l) (g.met.F.Form.grows l) h more a b f p q

pub returns-clause-whole : goal.returns-clause-whole
returns-clause-whole g c = λ l m h more a f rs cut p ends.
    refused_on m (g.F.Form.settles l) (g.F.Form.ends l) g.F.Form.place 0 a f p.records rs (end_of cut) p.run
    (g.met.F.Form.ends_grow l h more p.records rs cut p.settled ends)
