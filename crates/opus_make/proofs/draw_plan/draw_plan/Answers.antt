use Rattle.std.proofs.Common.{rules, arith}
use Rattle.opus_toc.proofs.Table.{samples-least, samples-most}
use Rattle.opus_make.specs.Plan.{plan_at, state_behind_plan}
use Rattle.opus_make.proofs.draw_plan.draw_plan.Goals as goal

pub draw_form-form-requires-clause-least : goal.draw_form-form-requires-clause-least
draw_form-form-requires-clause-least c =
    omega (arith, samples-least c.new.result.config c.new.result.known, c.samples-samples.ensures)

pub draw_form-form-requires-clause-most : goal.draw_form-form-requires-clause-most
draw_form-form-requires-clause-most c =
    omega (arith, samples-most c.new.result.config c.new.result.known, c.samples-samples.ensures)

pub returns-clause-plan : goal.returns-clause-plan
unfolding plan_at
returns-clause-plan c = search rules

pub returns-clause-state : goal.returns-clause-state
unfolding state_behind_plan
returns-clause-state c = search rules
