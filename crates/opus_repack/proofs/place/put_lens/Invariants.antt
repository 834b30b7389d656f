use Rattle.std.proofs.Common.{◌≡◌, ◌+◌, ◌++◌, length, take}
use Rattle.opus_repack.proofs.place.put_lens.Given as goal

abbrev pub invariant-loop-len : goal.invariant-loop-len
invariant-loop-len l = record {
  counted : l.count + length l.len-iterator ≡ l.fn.at + length l.fn.more;
  same : take l.count l.lens ++ l.len-iterator ≡ take l.fn.at l.fn.lens ++ l.fn.more;
}
