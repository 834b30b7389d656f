use Rattle.std.proofs.Common.{◌≡◌, ◌≤◌, ◌<◌, ℕ, None, get_or}
use Rattle.rtp_ends.proofs.ring.clear_mark.Given as goal

abbrev pub invariant-slots : goal.invariant-slots
invariant-slots l = (i : ℕ) → l.first ≤ i → i < l.slot → get_or l.slots i None ≡ None
