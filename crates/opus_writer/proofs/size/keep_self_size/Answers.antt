use Rattle.std.proofs.Common.{arith}
use Rattle.opus_packet.specs.Tail.{kept_bytes}
use Rattle.opus_writer.proofs.FormLemmas.{kept_self-size}
use Rattle.opus_writer.proofs.size.keep_self_size.Goals as goal

pub returns-clause-size : goal.returns-clause-size
returns-clause-size c =
    omega (arith, c.keep_size.ensures.size, c.last_width.ensures.size, kept_self-size c.args.packet.now.value (kept_bytes c.args.packet.now.tail))
