use Rattle.std.proofs.Common.{◌≡◌, vec_len, vec_capacity}
use Rattle.job_loop.proofs.gathered.take_room.Given as goal

abbrev pub invariant-room : goal.invariant-room
invariant-room l = record {
  len : vec_len l.room ≡ l.counter;
  exact : vec_capacity l.room ≡ 8192;
}
