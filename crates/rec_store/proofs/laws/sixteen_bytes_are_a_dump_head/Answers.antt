use Rattle.rec_store.proofs.PartLemmas.{dump_head-of}
use Rattle.rec_store.proofs.laws.sixteen_bytes_are_a_dump_head.Goals as goal

pub returns : goal.returns
returns c = dump_head-of
