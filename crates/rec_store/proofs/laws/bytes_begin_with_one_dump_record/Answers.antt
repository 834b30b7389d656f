use Rattle.rec_store.proofs.DumpLemmas.{dump_record-front}
use Rattle.rec_store.proofs.laws.bytes_begin_with_one_dump_record.Goals as goal

pub returns-clause-same : goal.returns-clause-same
returns-clause-same c = λ r s xs ys p q e. (dump_record-front r s xs ys p q e).0

pub returns-clause-rest : goal.returns-clause-rest
returns-clause-rest c = λ r s xs ys p q e. (dump_record-front r s xs ys p q e).1
