use Rattle.std.proofs.Common.{arith}
use Rattle.opus_packet.proofs.CutLemmas.{length-cut}
use Rattle.opus_packet.proofs.LensLemmas.{cut-frames}
use Rattle.opus_packet.proofs.packet.Packet.of_lens.Goals as goal

pub invariant_of-result : goal.invariant_of-result
invariant_of-result c =
    let a = c.args in
    let count = length-cut a.body.now a.lens in
    let few = c.len.ensures in
    record {
      value = record {
        config = a.toc.known;
        some = omega (arith, count, c.requires.some);
        most = omega (arith, count, few.count, few.most);
        each = cut-frames a.body.now a.lens few.each;
        duration = rw count c.requires.lasts;
      };
      fills = c.requires.whole;
      code = c.requires.code;
      tail = c.requires.padding;
    }
