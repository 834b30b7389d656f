use Rattle.std.proofs.Common.{ap}
use Rattle.opus_packet.specs.Read.{PacketRead}
use Rattle.opus_packet.specs.Value.{duration_of}
use Rattle.opus_packet.proofs.CutLemmas.{length-cut}
use Rattle.opus_packet.proofs.packet.Packet.duration.Goals as goal

pub returns-clause-duration : goal.returns-clause-duration
returns-clause-duration c =
    let p = c.self.inside in
    rw (c.len.ensures.count, c.samples.ensures, ← length-cut p.body.now p.lens) (ap (λ (r : PacketRead). duration_of r.value) c.self.view_is)

pub returns-clause-most : goal.returns-clause-most
returns-clause-most c =
    let p = c.self.inside in
    rw (c.len.ensures.count, c.samples.ensures, ← length-cut p.body.now p.lens) c.self.invariant.value.duration
