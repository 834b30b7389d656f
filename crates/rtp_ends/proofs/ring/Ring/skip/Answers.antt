use Rattle.std.proofs.Common.{List, Option, subst, arith}
use Rattle.rtp_ends.specs.declared.ring.Kept.{Kept}
use Rattle.rtp_ends.specs.Slots.{AreMarked, AreFreeUpTo}
use Rattle.rtp_ends.proofs.RingLemmas.{state-skip}
use Rattle.rtp_ends.proofs.WindowLemmas.{window-within}
use Rattle.rtp_ends.proofs.ring.Ring.skip.Goals as goal

free : (c : goal.After-self-1) → AreFreeUpTo c.self.inside.slots.items c.self.inside.top c.skipped-self-inside.result
free c = subst (λ (l : List (Option Kept)). AreFreeUpTo l c.self.inside.top c.skipped-self-inside.result)
    c.as_slice.ensures.value c.skipped-self-inside.ensures.free

pub invariant_of-self : goal.invariant_of-self
invariant_of-self c = record {
  sized = c.self.invariant.sized;
  high = (let high = c.self.invariant.high in let from = c.skipped-self-inside.ensures.from in omega arith);
  marked = subst (λ (l : List (Option Kept)). AreMarked c.skipped-self-inside.new.marks l)
      c.as_slice.ensures.value c.skipped-self-inside.ensures.marked;
}

pub returns-clause-kept : goal.returns-clause-kept
returns-clause-kept c =
    state-skip c.self.inside.slots.items c.self.inside.top c.skipped-self-inside.result c.args.self.now
    c.self.invariant.sized c.self.invariant.high c.self.view_is c.skipped-self-inside.ensures.from (free c)

pub returns-clause-within : goal.returns-clause-within
returns-clause-within c =
    window-within c.self.inside.slots.items c.skipped-self-inside.result c.self.invariant.sized
    (let high = c.self.invariant.high in let from = c.skipped-self-inside.ensures.from in omega arith)
