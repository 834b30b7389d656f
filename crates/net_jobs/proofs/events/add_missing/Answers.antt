use Rattle.std.proofs.Common.{arith}
use Rattle.net_jobs.proofs.TellLemmas.{told_all}
use Rattle.net_jobs.proofs.events.add_missing.Goals as goal

pub returns : goal.returns
returns c =
    told_all c.loop-event.sum c.args.missing c.args.events.now c.loop-event.event-index
    (omega (arith, c.loop-event-test.false, c.loop-event.auto.event-index-end)) c.loop-event.invariant.fits
    c.loop-event.invariant.left
