use Rattle.std.proofs.Common.{◌≡◌, ℕ, ◌%◌, ◌<◌, length, get_or}
use Rattle.opus_make.proofs.ramp.ramp.Given as goal

abbrev pub invariant-loop-i : goal.invariant-loop-i
invariant-loop-i l = (length l.bytes ≡ 347) × ((k : ℕ) → k < l.i → get_or l.bytes k 0 ≡ k % 256)
