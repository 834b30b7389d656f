use Rattle.std.proofs.Common.{arith}
use Rattle.opus_feed.proofs.LedLemmas.{led_counted, sized_none, given_counted, giving_first}
use Rattle.opus_feed.proofs.head.Head.behind_padding.Goals as goal
use Rattle.opus_feed.proofs.head.Head.behind_padding.Goals.{else-self-via-then-self+else-self-gt1, else-self-via-else-self}

pub behind_lengths-requires : goal.behind_lengths-requires
behind_lengths-requires c =
    let h = c.args.self.now in
    let is = c.requires.counted in
    sized_none h (led_counted h is c.requires.pad) is.none is.no_sum
    (given_counted h is.shape_code (λ vbr. elim c.else-self.branch [ else-self-via-then-self+else-self-gt1 w ↦ omega arith | else-self-via-else-self w ↦ cc ]))

pub returns-then-self-gt1-clause-sound : goal.returns-then-self-gt1-clause-sound
returns-then-self-gt1-clause-sound c =
    giving_first c.args.self.now c.requires.counted c.requires.pad c.if-self.true (omega arith)
