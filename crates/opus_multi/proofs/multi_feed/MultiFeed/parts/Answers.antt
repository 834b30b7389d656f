use Rattle.std.proofs.Common.{subst}
use Rattle.opus_multi.specs.MultiRooms.{HasRoom}
use Rattle.opus_multi.proofs.RoomLemmas.{all_one}
use Rattle.opus_multi.proofs.StandsLemmas.{first_parts}
use Rattle.opus_multi.proofs.multi_feed.MultiFeed.parts.Goals as goal

pub returns-clause-stands : goal.returns-clause-stands
returns-clause-stands c bytes s = rw c.deref.ensures.value (first_parts c.args.self.now bytes s)

pub returns-clause-equal : goal.returns-clause-equal
returns-clause-equal c done =
    let m = c.args.self.now in
    let room = subst (λ p. HasRoom p m.streams m.durations m.parts.items) done m.room in
    rw c.deref.ensures.value (all_one m.parts.items m.durations.first room.equal)
