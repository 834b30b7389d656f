use Rattle.std.proofs.Common.{length, ap, arith}
use Rattle.opus_packet.specs.Header.{header_bytes}
use Rattle.opus_packet.specs.PacketGrammar.{header_in}
use Rattle.opus_writer.specs.Padded.{padded_shape}
use Rattle.opus_writer.proofs.PaddedLemmas.{parts-size, plain-next}
use Rattle.opus_writer.proofs.padded.plain_size.Goals as goal

pub returns-clause-size : goal.returns-clause-size
returns-clause-size c =
    let v = c.args.packet.now.value in
    let own = ap (λ l. length (header_bytes (header_in v.config v.stereo (padded_shape v 0) l))) c.lens.ensures.are in
    let shape = ap (λ s. length (header_bytes (header_in v.config v.stereo s c.lens.result))) c.shape_with.ensures in
    omega (arith, c.header_size.ensures.size v.config v.stereo, shape, own, ap length c.body.ensures.bytes, parts-size v 0)

pub returns-clause-next : goal.returns-clause-next
returns-clause-next c = omega (arith, returns-clause-size c, plain-next c.args.packet.now.value)
