use Rattle.std.proofs.Common.{ap, sym, arith, ◌∙◌}
use Rattle.opus_packet.specs.Value.{duration_of}
use Rattle.opus_multi.proofs.RoomLemmas.{room_kept}
use Rattle.opus_multi.proofs.multi_feed.MultiFeed.keep.Goals as goal

pub invariant_of-self-2-clause-room : goal.invariant_of-self-2-clause-room
invariant_of-self-2-clause-room c =
    let m = c.args.self.now in
    room_kept m.place m.streams m.durations c.add.new.self m.parts.items c.push.new.self.items c.in_ok-part.part c.duration.result c.requires.reading m.room c.requires.more
    (λ ds same. c.add.ensures.told ds (omega (arith, same, c.len-k.ensures))) c.add.ensures.stays (c.duration.ensures.duration ∙ ap duration_of (sym c.in_ok-part.ensures.value)) (rw c.unwrap.ensures at c.push.ensures.items)
