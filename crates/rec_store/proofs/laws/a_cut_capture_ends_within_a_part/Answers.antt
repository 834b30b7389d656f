use Rattle.rec_store.proofs.FaultLemmas.{cut-parts, parts-cut}
use Rattle.rec_store.proofs.laws.a_cut_capture_ends_within_a_part.Goals as goal

pub returns : goal.returns
returns c = λ x. (cut-parts x, parts-cut x)
