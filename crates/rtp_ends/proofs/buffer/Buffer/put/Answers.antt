use Rattle.std.proofs.Common.{◌≤◌, ◌+◌, ◌≡◌, ℕ, length, ap, sym, subst, ◌∙◌, IfSome, arith}
use Rattle.rtp_ends.specs.Slots.{with_place, has_place}
use Rattle.rtp_ends.specs.Holding.{Held}
use Rattle.rtp_ends.proofs.HoldingLemmas.{held-put}
use Rattle.rtp_ends.proofs.buffer.Buffer.put.Goals as goal

counted : (c : goal.After-self-1) → c.self.inside.held + 1 ≡ length c.put.new.self.kept
counted c =
    held-put c.self.inside.ring.kept c.put.new.self.kept (with_place c.args.place c.args.kept) c.self.inside.held
    c.self.invariant.counted
    (ap (λ (h : Held). has_place c.args.place h.kept) c.self.view_is ∙ c.requires.free) c.put.ensures.kept

pub invariant_of-self : goal.invariant_of-self
invariant_of-self c = record {
  counted = counted c;
  within = c.put.ensures.within;
  told = subst (λ (t : ℕ). IfSome c.self.inside.last (λ place. place + 32768 ≤ t)) (sym c.put.ensures.top) c.self.invariant.told;
  most = (let is = counted c in let few = c.put.ensures.most in omega arith);
}
