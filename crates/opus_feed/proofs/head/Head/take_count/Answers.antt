use Rattle.std.proofs.Common.{arith}
use Rattle.opus_toc.proofs.Table.{samples-most}
use Rattle.opus_packet.proofs.Made.{product-small}
use Rattle.opus_feed.proofs.head.Head.take_count.Goals as goal

pub overflow_mul-from : goal.overflow_mul-from
overflow_mul-from c =
    let toc = c.of_byte.result in
    omega (arith, product-small c.from.result c.samples-samples.result (omega (arith, c.from.ensures)) (omega (arith, c.samples-samples.ensures, samples-most toc.config toc.known)))
