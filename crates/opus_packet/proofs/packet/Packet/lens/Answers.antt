use Rattle.std.proofs.Common.{ℕ, length, map, sym, ap, ◌∙◌, ◌≤◌, sum, arith}
use Rattle.opus_packet.specs.Read.{PacketRead}
use Rattle.opus_packet.proofs.CutLemmas.{lengths-cut, length-cut}
use Rattle.opus_packet.proofs.packet.Packet.lens.Goals as goal

pub returns-clause-are : goal.returns-clause-are
returns-clause-are c =
    let p = c.self.inside in
    let fits : sum p.lens ≤ length p.body.now = omega (arith, c.self.invariant.fills) in
    c.again.ensures.same ∙ sym (lengths-cut p.body.now p.lens fits) ∙ ap (λ (r : PacketRead). map (length {A = ℕ}) r.value.frames) c.self.view_is

pub returns-clause-some : goal.returns-clause-some
returns-clause-some c =
    let p = c.self.inside in
    omega (arith, c.self.invariant.value.some, length-cut p.body.now p.lens, ap length c.again.ensures.same)

pub returns-clause-most : goal.returns-clause-most
returns-clause-most c =
    let p = c.self.inside in
    omega (arith, c.self.invariant.value.most, length-cut p.body.now p.lens, ap length c.again.ensures.same)
