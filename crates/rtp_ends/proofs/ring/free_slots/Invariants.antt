use Rattle.std.proofs.Common.{◌≡◌, ◌≤◌, ◌-◌, ℕ, None, get_or, vec_len, vec_capacity}
use Rattle.rtp_ends.proofs.ring.free_slots.Given as goal

abbrev pub invariant-fill : goal.invariant-fill
invariant-fill l = record {
  room : vec_capacity l.slots ≡ 32768;
  most : vec_len l.slots ≤ 32768;
  free : (i : ℕ) → get_or l.slots.items i None ≡ None;
}

abbrev pub decreases-fill : goal.decreases-fill
decreases-fill l = 32768 - vec_len l.slots
