use Rattle.std.proofs.Common.{arith}
use Rattle.opus_writer.proofs.FormLemmas.{canonical_self-size}
use Rattle.opus_writer.proofs.size.canon_self_size.Goals as goal

pub returns-clause-size : goal.returns-clause-size
returns-clause-size c =
    omega (arith, c.canon_size.ensures.size, c.last_width.ensures.size, canonical_self-size c.args.packet.now.value)
