use Rattle.opus_flen.proofs.LengthLemmas.{length_read-found, length_bytes-unique}
use Rattle.opus_flen.proofs.laws.a_frame_length_is_read_in_one_way.Goals as goal

pub returns-clause-read : goal.returns-clause-read
returns-clause-read c = length_read-found

pub returns-clause-one : goal.returns-clause-one
returns-clause-one c = length_bytes-unique
