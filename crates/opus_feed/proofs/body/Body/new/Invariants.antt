use Rattle.std.proofs.Common.{◌≡◌, vec_len, vec_capacity}
use Rattle.opus_feed.proofs.body.Body.new.Given as goal

abbrev pub invariant-room : goal.invariant-room
invariant-room l = record {
  len : vec_len l.bytes ≡ l.counter;
  room : vec_capacity l.bytes ≡ l.size;
}
