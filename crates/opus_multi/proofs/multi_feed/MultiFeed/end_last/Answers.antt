use Rattle.std.proofs.Common.{◌++◌, ◌∷◌, [], ap, sym, arith, ◌∙◌}
use Rattle.opus_packet.specs.Value.{duration_of}
use Rattle.opus_multi.proofs.RoomLemmas.{equal_kept, part_is}
use Rattle.opus_multi.proofs.multi_feed.MultiFeed.end_last.Goals as goal

pub invariant_of-self-2-clause-room : goal.invariant_of-self-2-clause-room
invariant_of-self-2-clause-room c =
    let m = c.args.self.now in
    equal_kept m.place m.streams m.durations c.add.new.self m.parts.items c.push.new.self.items c.in-Ok.part c.duration.result c.requires.reading m.room c.in_default.is
    (λ ds same. c.add.ensures.told ds (omega (arith, same, c.len-k.ensures))) c.add.ensures.stays (c.duration.ensures.duration ∙ ap duration_of (sym c.in-Ok.ensures.value)) (rw c.unwrap.ensures at c.push.ensures.items)

pub returns-clause-ends : goal.returns-clause-ends
returns-clause-ends c =
    let p = c.packet-packet in
    let e = c.in-Ok.ensures in (
      record { packet = p.result; read = p.ensures.ended; told = λ ds same. rw c.duration.ensures.duration at (c.add.ensures.told ds (omega (arith, same, c.len-k.ensures))) },
      c.in_default.is,
      (rw c.unwrap.ensures at c.push.ensures.items) ∙ ap (λ x. c.args.self.now.parts.items ++ x ∷ []) (part_is c.in-Ok.part p.result e.value e.tail e.shape e.size e.dropped),
    )
