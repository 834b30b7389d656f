use Rattle.std.proofs.Common.{[], length, ap, arith}
use Rattle.opus_packet.proofs.SpellingLemmas.{kept_form-nil}
use Rattle.opus_writer.proofs.FormLemmas.{kept-size}
use Rattle.opus_writer.proofs.MostBytes.{canonical-most}
use Rattle.opus_writer.proofs.size.canon_size.Goals as goal

pub returns-clause-size : goal.returns-clause-size
returns-clause-size c =
    let v = c.args.packet.now.value in
    let lens = c.lens-lens.ensures in
    omega (arith, kept-size v [] c.lens-lens.result c.body.result.now c.canonical_shape.result c.header_size.result lens.are c.body.ensures.bytes c.canonical_shape.ensures (c.header_size.ensures.size v.config v.stereo), ap length (kept_form-nil v))

pub returns-clause-most : goal.returns-clause-most
returns-clause-most c =
    let v = c.args.packet.now.value in
    omega (arith, returns-clause-size c, canonical-most v c.lens-lens.result c.lens-lens.ensures.are c.lens-lens.ensures.some c.lens-lens.ensures.most c.lens-lens.ensures.each)
