use Rattle.rec_store.proofs.LineLemmas.{bad_line-longer, bad_line-once}
use Rattle.rec_store.proofs.FaultLemmas.{bad_line-no_dump, bad_line-not_cut}
use Rattle.rec_store.proofs.laws.a_bad_line_stays_bad.Goals as goal

pub returns : goal.returns
returns c = record {
  longer = bad_line-longer;
  once = bad_line-once;
  no_capture = bad_line-no_dump;
  no_cut = bad_line-not_cut;
}
