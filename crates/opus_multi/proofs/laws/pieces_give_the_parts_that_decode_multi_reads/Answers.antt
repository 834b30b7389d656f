use Rattle.opus_multi.proofs.PartsLemmas.{all_kept}
use Rattle.opus_multi.proofs.laws.pieces_give_the_parts_that_decode_multi_reads.Goals as goal

pub returns : goal.returns
returns c = all_kept
