use Rattle.std.proofs.Common.{length, ap, ◌∙◌, arith}
use Rattle.opus_packet.specs.Canonical.{keep_shape}
use Rattle.opus_packet.specs.Tail.{kept_bytes}
use Rattle.opus_writer.proofs.FormLemmas.{kept-size}
use Rattle.opus_writer.proofs.size.keep_size.Goals as goal

pub returns-clause-size : goal.returns-clause-size
returns-clause-size c =
    let v = c.args.packet.now.value in
    let lens = c.lens-lens.ensures in
    let tail = ap length c.tail_bytes.ensures.bytes in
    omega (arith, tail, kept-size v (kept_bytes c.args.packet.now.tail) c.lens-lens.result c.body.result.now c.keep_shape.result c.header_size.result lens.are c.body.ensures.bytes (c.keep_shape.ensures ∙ ap (λ n. keep_shape c.lens-lens.result n) tail) (c.header_size.ensures.size v.config v.stereo))
