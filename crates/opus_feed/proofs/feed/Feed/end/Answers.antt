use Rattle.std.proofs.Common.{ap, ◌∙◌, subst, sym, ⊎_elim}
use Rattle.opus_feed.specs.Places.{IsSteady}
use Rattle.opus_feed.specs.Stands.{StandsAt, fault_at}
use Rattle.opus_feed.specs.Steps.{IsOver}
use Rattle.opus_feed.proofs.EndLemmas.{opening_ends, cut_ends, over_ends}
use Rattle.opus_feed.proofs.feed.Feed.end.Goals as goal

pub returns-in-Opening-clause-ended : goal.returns-in-Opening-clause-ended
returns-in-Opening-clause-ended c =
    λ bytes s.
    let f = c.args.self.now in
    let stage = c.in-Opening.stage in
    let steady = subst (λ p. IsSteady f.framing f.padding p f.head f.body) c.in-Opening.is f.steady in
    let at = subst (λ p. StandsAt f.framing p f.head f.body bytes) c.in-Opening.is s.at in
    let ends = opening_ends f.framing f.padding stage f.head f.body bytes steady s.are_bytes at in
    record { are_bytes = s.are_bytes; at = (ends.0, ap (λ r. fault_at r f.body) c.opening_rule.ensures ∙ ends.1); held = s.held }

pub returns-in-SelfDelimited-clause-ended : goal.returns-in-SelfDelimited-clause-ended
returns-in-SelfDelimited-clause-ended c =
    λ bytes s.
    let f = c.args.self.now in
    let steady = subst (λ p. IsSteady f.framing f.padding p f.head f.body) c.in-Filling.is f.steady in
    let at = subst (λ p. StandsAt f.framing p f.head f.body bytes) c.in-Filling.is s.at in
    record {
      are_bytes = s.are_bytes;
      at = cut_ends f.framing f.padding f.head f.body bytes c.in-SelfDelimited.is steady.0 steady.1 at;
      held = s.held;
    }

pub returns-in-Full-clause-ended : goal.returns-in-Full-clause-ended
returns-in-Full-clause-ended c =
    λ bytes s.
    let f = c.args.self.now in
    let over : IsOver f.place =
    ⊎_elim (λ is. subst IsOver (sym is) tt) (λ is. subst IsOver (sym is.1) tt) c.in-Full.is in
    record { are_bytes = s.are_bytes; at = over_ends f.framing f.place f.head f.body bytes over s.are_bytes s.at; held = s.held }
