use Rattle.pack_jobs.proofs.GroupFrames.{cut-frames}
use Rattle.pack_jobs.proofs.laws.groups_keep_all_frames.Goals as goal

pub returns : goal.returns
returns c = record { frames = cut-frames }
