use Rattle.rec_store.proofs.DemoCutLemmas.{cut-within, within-cut}
use Rattle.rec_store.proofs.laws.a_cut_store_ends_within_a_record.Goals as goal

pub returns : goal.returns
returns c = λ x are. (cut-within x, within-cut x are)
