use Rattle.pack_jobs.proofs.PadLemmas.{padded-small}
use Rattle.pack_jobs.proofs.pad.Pad.fill.Goals as goal

pub returns-in-Ok-clause-small : goal.returns-in-Ok-clause-small
returns-in-Ok-clause-small c =
    padded-small c.args.packet.now.value c.args.self.now.size c.clear.new.self.items c.write_padded.new.out.items
    c.clear.ensures.items c.in-Ok.ensures.ok (λ is. let e = c.in-Ok.ensures.too_small.1 is in cc)
