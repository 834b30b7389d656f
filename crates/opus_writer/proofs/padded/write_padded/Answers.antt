use Rattle.std.proofs.Common.{◌-◌, arith}
use Rattle.opus_writer.proofs.PaddedLemmas.{padded_by-size}
use Rattle.opus_writer.proofs.padded.write_padded.Goals as goal

pub returns-in-Err-append_padded-clause-full : goal.returns-in-Err-append_padded-clause-full
returns-in-Err-append_padded-clause-full c none =
    omega (arith, c.in-Err-append_padded.ensures.full, padded_by-size c.args.packet.now.value (c.args.size - c.plain_size.result), c.plain_size.ensures.size, c.plain_size.ensures.next, c.canon_size-canonical.ensures.size, c.if-size-canonical.false, c.if-size-canonical-2.false)
