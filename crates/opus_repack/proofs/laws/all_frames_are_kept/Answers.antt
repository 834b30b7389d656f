use Rattle.opus_repack.proofs.PartLemmas.{parts-all}
use Rattle.opus_repack.proofs.laws.all_frames_are_kept.Goals as goal

pub returns-clause-parts : goal.returns-clause-parts
returns-clause-parts c = parts-all
