use Rattle.rec_store.proofs.FaultLemmas.{bad_length-longer, bad_length-once, bad_length-no_dump, bad_length-not_cut, bad_line-no_bad_length}
use Rattle.rec_store.proofs.laws.a_bad_length_stays_bad.Goals as goal

pub returns : goal.returns
returns c = record {
  longer = bad_length-longer;
  once = bad_length-once;
  no_capture = bad_length-no_dump;
  no_cut = bad_length-not_cut;
  no_bad_line = bad_line-no_bad_length;
}
