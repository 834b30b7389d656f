use Rattle.std.proofs.Common.{subst, sym, ⊎_elim}
use Rattle.opus_feed.specs.Places.{IsSteady}
use Rattle.opus_feed.specs.Stands.{StandsAt}
use Rattle.opus_feed.specs.Steps.{IsOver}
use Rattle.opus_feed.proofs.FillLemmas.{stands_behind}
use Rattle.opus_feed.proofs.HoldingLemmas.{held_filled, held_over}
use Rattle.opus_feed.proofs.advance.advance.Goals as goal

pub returns-in-Filling-clause-stands : goal.returns-in-Filling-clause-stands
returns-in-Filling-clause-stands c =
    let a = c.args in
    let steady = subst (λ p. IsSteady a.framing a.padding p a.head.now a.body.now) c.in-Filling.is c.requires in
    λ bytes are stands.
    stands_behind a.framing a.padding a.head.now a.body.now c.fill.new.body a.piece.now c.fill.result.used
    c.fill.result.place bytes steady.0 c.fill.ensures.fills c.fill.ensures.place
    (subst (λ p. StandsAt a.framing p a.head.now a.body.now bytes) c.in-Filling.is stands)

pub returns-in-Filling-clause-held : goal.returns-in-Filling-clause-held
returns-in-Filling-clause-held c =
    let a = c.args in
    let steady = subst (λ p. IsSteady a.framing a.padding p a.head.now a.body.now) c.in-Filling.is c.requires in
    λ bytes are stands held.
    held_filled a.framing a.padding a.head.now a.body.now c.fill.new.body a.piece.now c.fill.result.used bytes steady.0
    c.fill.ensures.fills (subst (λ p. StandsAt a.framing p a.head.now a.body.now bytes) c.in-Filling.is stands)

pub returns-in-Full-clause-held : goal.returns-in-Full-clause-held
returns-in-Full-clause-held c =
    let a = c.args in
    let over : IsOver a.place = ⊎_elim (λ is. subst IsOver (sym is) tt) (λ is. subst IsOver (sym is.1) tt) c.in-Full.is in
    λ bytes are stands held.
    held_over a.framing a.padding a.place a.head.now a.body.now bytes a.piece.now over c.requires are stands held
