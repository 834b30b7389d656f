use Rattle.std.proofs.Common.{◌≡◌, ◌+◌, ◌++◌, length}
use Rattle.pack_jobs.specs.PacketLines.{bit_digits}
use Rattle.pack_jobs.proofs.line.Line.bits.Given as goal

abbrev pub invariant-loop-place : goal.invariant-loop-place
invariant-loop-place g l = record {
  text : l.self ≡ bit_digits l.place l.bits ++ l.initial.self;
  size : length l.self ≡ l.place + length l.initial.self;
}
