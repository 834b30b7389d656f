use Rattle.job_loop.proofs.LawLemmas.{longer_text}
use Rattle.job_loop.proofs.laws.a_longer_front_settles_a_longer_text.Goals as goal

pub returns : goal.returns
returns g c = λ l m h more a b p q. longer_text m (g.F.Form.settles l) (g.met.F.Form.grows l) h more a b p q
