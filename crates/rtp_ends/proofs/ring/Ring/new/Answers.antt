use Rattle.rtp_ends.proofs.RingLemmas.{state-free}
use Rattle.rtp_ends.proofs.ring.Ring.new.Goals as goal

pub returns : goal.returns
returns c = state-free c.in_ok-free_slots.field-0.items 32768 c.in_ok-free_slots.ensures.free
