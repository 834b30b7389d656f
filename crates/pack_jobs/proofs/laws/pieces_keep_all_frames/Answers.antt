use Rattle.pack_jobs.proofs.SplitLemmas.{pieces-frames, pieces-kind, pieces-values, pieces-full}
use Rattle.pack_jobs.proofs.laws.pieces_keep_all_frames.Goals as goal

pub returns-clause-frames : goal.returns-clause-frames
returns-clause-frames c = pieces-frames

pub returns-clause-kind : goal.returns-clause-kind
returns-clause-kind c = pieces-kind

pub returns-clause-packets : goal.returns-clause-packets
returns-clause-packets c = pieces-values

pub returns-clause-counts : goal.returns-clause-counts
returns-clause-counts c = pieces-full
