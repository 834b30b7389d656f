use Rattle.pack_jobs.proofs.SplitLemmas.{split_written, split_refused, split_cut}
use Rattle.pack_jobs.proofs.laws.split_writes_the_pieces_of_each_packet.Goals as goal

pub returns-clause-written : goal.returns-clause-written
returns-clause-written c = split_written

pub returns-clause-refused : goal.returns-clause-refused
returns-clause-refused c = split_refused

pub returns-clause-cut : goal.returns-clause-cut
returns-clause-cut c = split_cut
