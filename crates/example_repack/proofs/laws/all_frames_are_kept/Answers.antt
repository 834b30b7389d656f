use Rattle.example_repack.proofs.RunLemmas.{Runs-keeps}
use Rattle.example_repack.proofs.laws.all_frames_are_kept.Goals as goal

pub returns : goal.returns
returns c = Runs-keeps
