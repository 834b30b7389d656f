use Rattle.std.proofs.Common.{length, sym, ap, ◌∙◌}
use Rattle.opus_packet.specs.Read.{PacketRead}
use Rattle.opus_packet.proofs.CutLemmas.{length-cut}
use Rattle.opus_packet.proofs.packet.Packet.count.Goals as goal

pub returns-clause-count : goal.returns-clause-count
returns-clause-count c =
    let p = c.self.inside in
    c.len.ensures.count ∙ sym (length-cut p.body.now p.lens) ∙ ap (λ (r : PacketRead). length r.value.frames) c.self.view_is
