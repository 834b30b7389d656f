use Rattle.pack_jobs.proofs.MergeAgain.{merge_keeps}
use Rattle.pack_jobs.proofs.SplitAgain.{split_keeps}
use Rattle.pack_jobs.proofs.PadAgain.{pad_keeps}
use Rattle.pack_jobs.proofs.laws.what_is_written_has_all_frames.Goals as goal

pub returns-clause-merge : goal.returns-clause-merge
returns-clause-merge c = merge_keeps

pub returns-clause-split : goal.returns-clause-split
returns-clause-split c = split_keeps

pub returns-clause-pad : goal.returns-clause-pad
returns-clause-pad c = pad_keeps
