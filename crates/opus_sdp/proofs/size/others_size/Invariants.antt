use Rattle.std.proofs.Common.{length, take}
use Rattle.opus_sdp.specs.Printed.{params_after}
use Rattle.opus_sdp.specs.Writing.{Counts}
use Rattle.opus_sdp.proofs.size.others_size.Given as goal

abbrev pub invariant-loop-param : goal.invariant-loop-param
invariant-loop-param l = Counts l.size (length (params_after 59 (take l.param-index l.params)))
