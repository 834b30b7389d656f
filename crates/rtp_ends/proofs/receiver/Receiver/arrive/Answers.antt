use Rattle.std.proofs.Common.{ℕ, List, ap, sym, subst, ◌∙◌}
use Rattle.rtp_ends.specs.declared.event.Event.{Event}
use Rattle.rtp_ends.specs.Numbers.{Placed, placed_at}
use Rattle.rtp_ends.specs.Slots.{has_place}
use Rattle.rtp_ends.specs.Receives.{Keeps}
use Rattle.rtp_ends.proofs.ReceiverLemmas.{first-arrival, place-next, kept-none, above-from, first-from}
use Rattle.rtp_ends.proofs.ArrivedLemmas.{arrived-repeat, arrived-new}
use Rattle.rtp_ends.proofs.receiver.Receiver.arrive.Goals as goal

pub returns-then-has-clause-ok : goal.returns-then-has-clause-ok
returns-then-has-clause-ok c = λ heard is.
    arrived-repeat c.args.self.now c.count.new.self heard
    (record { seq = c.args.seq; stamp = c.args.stamp; payload = c.args.payload.now })
    c.place_of-place.result c.repeat_at.result c.args.out.now.items is
    (c.place_of-place.ensures.place ∙ place-next c.args.self.now heard is.0 c.args.seq is.1)
    (λ some. (c.place_of-place.ensures.is.later some).above)
    (kept-none c.args.self.now heard is.0 is.1)
    (sym c.has.ensures ∙ c.if-has.true)
    c.count.ensures c.repeat_at.ensures

pub returns-clause-ok : goal.returns-clause-ok
returns-clause-ok c = λ heard is.
    let place = c.place_of-place.result in
    arrived-new c.begin.new.self c.keep.new.self heard
    (record { seq = c.args.seq; stamp = c.args.stamp; payload = c.args.payload.now })
    place (record { stamp = c.args.stamp; payload = c.in_ok-payload.payload }) c.new_at.result c.args.out.now.items
    c.keep.new.out.items
    (c.begin.ensures.stands heard is)
    (c.place_of-place.ensures.place ∙ place-next c.args.self.now heard is.0 c.args.seq is.1)
    (above-from c.args.self.now c.args.seq place c.begin.new.self.top c.place_of-place.ensures.is c.begin.ensures.top)
    (first-from c.args.self.now heard is.0 place c.begin.new.self.top is.1 c.begin.ensures.top)
    (ap (λ (l : List Placed). has_place c.place_of-place.result l) c.begin.ensures.kept ∙ sym c.has.ensures ∙ c.if-has.false)
    (ap (λ (p : List ℕ). placed_at c.place_of-place.result (record { seq = c.args.seq; stamp = c.args.stamp; payload = p }))
    c.in_ok-payload.ensures)
    (subst
    (λ (l : List Event). Keeps c.begin.new.self c.keep.new.self c.place_of-place.result
    (record { stamp = c.args.stamp; payload = c.in_ok-payload.payload }) l c.keep.new.out.items)
    c.in_ok-make_room.ensures.items c.keep.ensures)
    c.new_at.ensures

pub returns-in_err-payload-clause-first : goal.returns-in_err-payload-clause-first
returns-in_err-payload-clause-first c =
    first-arrival c.from_residual.result c.args.self.now c.args.seq c.place_of-place.result
    c.place_of-place.ensures.place (λ some. (c.place_of-place.ensures.is.later some).above)
    (sym c.has.ensures ∙ c.if-has.false)

pub returns-in_err-make_room-clause-first : goal.returns-in_err-make_room-clause-first
returns-in_err-make_room-clause-first c =
    first-arrival c.from_residual-in_err-make_room.result c.args.self.now c.args.seq c.place_of-place.result
    c.place_of-place.ensures.place (λ some. (c.place_of-place.ensures.is.later some).above)
    (sym c.has.ensures ∙ c.if-has.false)
