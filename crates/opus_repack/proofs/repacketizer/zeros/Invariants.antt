use Rattle.std.proofs.Common.{◌≡◌, vec_len, vec_capacity}
use Rattle.opus_repack.proofs.repacketizer.zeros.Given as goal

abbrev pub invariant-room : goal.invariant-room
invariant-room l = record {
  len : vec_len l.bytes ≡ l.counter;
  room : vec_capacity l.bytes ≡ l.size;
}
