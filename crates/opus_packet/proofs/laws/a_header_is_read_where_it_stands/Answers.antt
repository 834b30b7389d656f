use Rattle.opus_packet.proofs.FrontLemmas.{header_read-exactly}
use Rattle.opus_packet.proofs.laws.a_header_is_read_where_it_stands.Goals as goal

pub returns : goal.returns
returns c = record { exactly = header_read-exactly }
