use Rattle.opus_self.proofs.ReadSelf.{found_only}
use Rattle.opus_self.proofs.self_delimited.decode_self.Goals as goal

pub returns-in-Ok-clause-only : goal.returns-in-Ok-clause-only
returns-in-Ok-clause-only c v s used begins =
    let p = c.over-packet.result in
    found_only c.args.bytes.now p.value v p.shape s c.size-used.result used (record { within = rw c.size-used.ensures c.in-Ok.ensures.within; spelled = c.over-packet.ensures.found }) begins
