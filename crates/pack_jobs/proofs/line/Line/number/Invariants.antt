use Rattle.std.proofs.Common.{◌≡◌, ◌+◌, ◌<◌, ◌^◌, ◌++◌, length, decimal}
use Rattle.pack_jobs.proofs.line.Line.number.Given as goal

abbrev pub invariant-digits : goal.invariant-digits
invariant-digits g l = record {
  fits : l.left < 2 ^ 64;
  text : decimal l.left ++ l.self ≡ decimal l.n ++ l.initial.self;
  size : length (decimal l.left) + length l.self ≡ length (decimal l.n) + length l.initial.self;
}

abbrev pub decreases-digits : goal.decreases-digits
decreases-digits g l = l.left
