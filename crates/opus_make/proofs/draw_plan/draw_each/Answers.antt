use Rattle.opus_make.proofs.DrawLemmas.{DrawnSoFar-more}
use Rattle.opus_make.proofs.draw_plan.draw_each.Goals as goal

pub loop-preserved : goal.loop-preserved
loop-preserved c =
    let l = c.loop in
    rw (c.push.ensures.items, c.draw.ensures.number, c.draw.ensures.state)
    (DrawnSoFar-more c.args.draws.now.state l.counter l.lengths.items l.draws.state l.invariant)
