use Rattle.std.proofs.Common.{sym, ap, ◌∙◌, subst}
use Rattle.std.specs.List.{concat}
use Rattle.opus_packet.specs.Value.{IsPacketValue}
use Rattle.opus_packet.specs.Read.{PacketRead}
use Rattle.opus_packet.proofs.CutLemmas.{concat-cut}
use Rattle.opus_packet.proofs.LensLemmas.{cut-small}
use Rattle.opus_packet.proofs.packet.Packet.body.Goals as goal

pub returns-clause-bytes : goal.returns-clause-bytes
returns-clause-bytes c =
    let p = c.self.inside in
    sym (ap (λ (r : PacketRead). concat r.value.frames) (sym c.self.view_is) ∙ concat-cut p.body.now p.lens (sym c.self.invariant.fills))

pub returns-clause-most : goal.returns-clause-most
returns-clause-most c =
    let p = c.self.inside in
    cut-small p.body.now p.lens c.self.invariant.value.each c.self.invariant.value.most c.self.invariant.fills

pub returns-clause-value : goal.returns-clause-value
returns-clause-value c = subst (λ (r : PacketRead). IsPacketValue r.value) c.self.view_is c.self.invariant.value
