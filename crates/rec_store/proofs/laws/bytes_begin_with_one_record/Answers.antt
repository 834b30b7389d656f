use Rattle.rec_store.proofs.DemoLemmas.{demo_record-front}
use Rattle.rec_store.proofs.laws.bytes_begin_with_one_record.Goals as goal

pub returns-clause-rest : goal.returns-clause-rest
returns-clause-rest c = λ r s p q xs ys is is' e. (demo_record-front r s p q xs ys is is' e).2
