use Rattle.std.proofs.Common.{length, ◌≤◌, sym, ap, ◌∙◌, subst}
use Rattle.opus_packet.specs.SelfGrammar.{last_length}
use Rattle.opus_packet.proofs.LensLemmas.{last-is}
use Rattle.opus_packet.proofs.lens.Lens.last_len.Goals as goal

pub returns-clause-last : goal.returns-clause-last
returns-clause-last c =
    let l = c.self.inside in
    let i = c.self.invariant in
    last-is l.before l.last l.count i.before i.counted (subst (λ ns. 1 ≤ length ns) (sym c.self.view_is) c.requires) ∙ ap last_length c.self.view_is
