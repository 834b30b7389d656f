use Rattle.std.proofs.Common.{Err, ap}
use Rattle.opus_multi.specs.Joins.{held_durations}
use Rattle.opus_multi.specs.declared.fault.JoinFault.TheVariants.{Unequal}
use Rattle.opus_multi.proofs.OnlyLemmas.{unequal_once, unequal_never}
use Rattle.opus_multi.proofs.joined.join.Goals as goal

pub returns-in-Some-clause-unequal : goal.returns-in-Some-clause-unequal
returns-in-Some-clause-unequal c k u =
    ap (λ n. Err (Unequal n)) (unequal_once (held_durations c.args.parts.now) c.in-Some.k k c.in-Some.ensures.some u)

pub returns-in-Ok-clause-unequal : goal.returns-in-Ok-clause-unequal
returns-in-Ok-clause-unequal c k u = absurd (unequal_never (held_durations c.args.parts.now) k u c.in_default.ensures.none)

pub returns-in-Err-clause-unequal : goal.returns-in-Err-clause-unequal
returns-in-Err-clause-unequal c k u = absurd (unequal_never (held_durations c.args.parts.now) k u c.in_default.ensures.none)
