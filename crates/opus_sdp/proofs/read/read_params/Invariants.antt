use Rattle.std.proofs.Common.{◌-◌, length}
use Rattle.opus_sdp.proofs.ReadLemmas.{Going}
use Rattle.opus_sdp.proofs.read.read_params.Given as goal

abbrev pub invariant-loop-found : goal.invariant-loop-found
invariant-loop-found l = Going l.at l.text l.found l.from

abbrev pub decreases-loop-found : goal.decreases-loop-found
decreases-loop-found l = length l.text - l.from
