use Rattle.rtp_ends.proofs.NumberLemmas.{place_after-near, place_after-far}
use Rattle.rtp_ends.proofs.receiver.place_after.Goals as goal

pub returns-then-ahead-le-WINDOW-clause-place : goal.returns-then-ahead-le-WINDOW-clause-place
returns-then-ahead-le-WINDOW-clause-place c =
    place_after-near c.args.greatest c.args.seq c.from.result c.from.ensures c.if-ahead-le-WINDOW.true

pub returns-else-ahead-le-WINDOW-clause-place : goal.returns-else-ahead-le-WINDOW-clause-place
returns-else-ahead-le-WINDOW-clause-place c =
    place_after-far c.args.greatest c.args.seq c.from.result c.from.ensures c.if-ahead-le-WINDOW.false
