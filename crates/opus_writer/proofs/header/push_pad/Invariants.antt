use Rattle.std.proofs.Common.{◌≡◌, ◌++◌, replicate}
use Rattle.opus_writer.proofs.header.push_pad.Given as goal

abbrev pub invariant-loop : goal.invariant-loop
invariant-loop g l = l.header.items ≡ l.initial.header.items ++ replicate l.counter 255
