use Rattle.std.proofs.Common.{◌%◌, rules}
use Rattle.std.proofs.lemmas.List.FromFn.{fill_by_all}
use Rattle.opus_make.specs.Ramp.{ramp_bytes}
use Rattle.opus_make.proofs.ramp.ramp.Goals as goal

pub returns : goal.returns
unfolding ramp_bytes
returns c = fill_by_all (λ k. k % 256) c.loop-i.bytes 347 0 c.loop-i.invariant.0 (search rules)
