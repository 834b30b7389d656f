use Rattle.rec_store.proofs.DemoLemmas.{demo_head-of}
use Rattle.rec_store.proofs.laws.eight_bytes_are_a_head.Goals as goal

pub returns : goal.returns
returns c = record { head = demo_head-of }
