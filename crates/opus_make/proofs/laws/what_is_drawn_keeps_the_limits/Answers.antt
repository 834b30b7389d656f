use Rattle.opus_make.proofs.PlanLemmas.{plan_at-limits}
use Rattle.opus_make.proofs.laws.what_is_drawn_keeps_the_limits.Goals as goal

pub returns : goal.returns
returns c = plan_at-limits
