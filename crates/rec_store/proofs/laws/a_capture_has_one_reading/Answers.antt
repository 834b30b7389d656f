use Rattle.rec_store.proofs.StoreLemmas.{dump_once}
use Rattle.rec_store.proofs.laws.a_capture_has_one_reading.Goals as goal

pub returns : goal.returns
returns c = record {
  head = λ x a b rs ss p q. (dump_once x a b rs ss p q).0;
  records = λ x a b rs ss p q. (dump_once x a b rs ss p q).1;
}
