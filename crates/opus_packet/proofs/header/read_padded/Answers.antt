use Rattle.std.proofs.Common.{arith}
use Rattle.opus_flen.proofs.PaddingLemmas.{most_full-is}
use Rattle.opus_packet.proofs.header.read_padded.Goals as goal

pub overflow_add-result : goal.overflow_add-result
overflow_add-result c = omega (arith, c.in-Limit.ensures.reads, most_full-is)
