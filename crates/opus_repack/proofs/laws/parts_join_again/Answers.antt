use Rattle.std.proofs.Common.{ap}
use Rattle.opus_repack.proofs.PartLemmas.{slice-append}
use Rattle.opus_repack.proofs.laws.parts_join_again.Goals as goal

pub returns-clause-longer : goal.returns-clause-longer
returns-clause-longer c v from mid to below above =
    ap (λ fs. record v { frames = fs }) (slice-append v.frames from mid to below above)
