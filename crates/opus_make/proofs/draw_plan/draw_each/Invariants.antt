use Rattle.opus_make.proofs.DrawLemmas.{DrawnSoFar}
use Rattle.opus_make.proofs.draw_plan.draw_each.Given as goal

abbrev pub invariant-loop : goal.invariant-loop
invariant-loop l = DrawnSoFar l.initial.draws.state l.counter l.lengths.items l.draws.state
