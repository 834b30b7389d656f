use Rattle.std.proofs.Common.{◌≡◌, subst, sym, Ok, refl}
use Rattle.opus_feed.specs.Places.{IsSteady}
use Rattle.opus_feed.specs.Stands.{EndsAt}
use Rattle.opus_feed.specs.Steps.{IsWhole}
use Rattle.opus_feed.specs.Answers.{Finishes}
use Rattle.opus_feed.specs.declared.place.Place.TheVariants.{Full}
use Rattle.opus_feed.proofs.EndLemmas.{full_found, full_from_over, again_ok}
use Rattle.opus_feed.proofs.feed.Feed.finish.Goals as goal

pub returns-in_default : goal.returns-in_default
returns-in_default c =
    let f = c.args.self.now in
    let new = c.end.new.self in
    let e = c.end.ensures in
    let full : new.place ≡ Full = full_from_over new.place e.over c.in_default.not-Failed in
    let steady = subst (λ p. IsSteady new.framing new.padding p new.head new.body) full new.steady in
    record {
      ended = e.ended;
      answer = λ bytes s.
          let ended = e.ended bytes s in
          let at = subst (λ p. EndsAt new.framing p new.head new.body bytes) full ended.at in
          subst (λ g. Finishes g bytes (Ok tt)) e.framing
          (full_found new.framing new.padding new.head new.body bytes steady ended.are_bytes at);
      tells = subst IsWhole (sym full) tt;
      again = again_ok f.place f new refl e.stays full;
      framing = e.framing;
      padding = e.padding;
      room = e.room;
    }
