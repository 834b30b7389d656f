use Rattle.job_loop.proofs.LawLemmas.{one_text}
use Rattle.job_loop.proofs.laws.a_front_settles_one_text.Goals as goal

pub returns : goal.returns
returns g c = λ l m h a b p q. one_text m (g.F.Form.settles l) (g.met.F.Form.grows l) h a b p q
