use Rattle.std.proofs.Common.{◌+◌, ap, ◌∙◌, subst, sym}
use Rattle.opus_packet.specs.declared.fault.Rule.{Rule}
use Rattle.opus_packet.specs.Header.{Header, body_size, padding_data}
use Rattle.opus_packet.specs.HeaderStands.{sizes_value}
use Rattle.opus_feed.specs.Places.{IsSteady}
use Rattle.opus_feed.specs.Stands.{StandsAt, EndsAt}
use Rattle.opus_feed.specs.declared.place.Place.TheVariants.{Failed}
use Rattle.opus_feed.proofs.EndLemmas.{none_ends, some_ends}
use Rattle.opus_feed.proofs.feed.Feed.end_whole.Goals as goal

pub returns-in-Some-clause-ended : goal.returns-in-Some-clause-ended
returns-in-Some-clause-ended c =
    λ bytes s.
    let f = c.args.self.now in
    let at = subst (λ p. StandsAt f.framing p f.head f.body bytes) c.requires.place s.at in
    record {
      are_bytes = s.are_bytes;
      at = some_ends f.framing f.head f.body bytes c.in-Some.last c.requires.framing at;
      held = s.held;
    }

pub returns-in-None-clause-ended : goal.returns-in-None-clause-ended
returns-in-None-clause-ended c =
    λ bytes s.
    let f = c.args.self.now in
    let steady = subst (λ p. IsSteady f.framing f.padding p f.head f.body) c.requires.place f.steady in
    let at = subst (λ p. StandsAt f.framing p f.head f.body bytes) c.requires.place s.at in
    let header = c.header.ensures in
    record {
      are_bytes = s.are_bytes;
      at = subst (λ (r : Rule). EndsAt f.framing (Failed r) f.head f.body bytes) (sym c.part_rule.ensures)
          (none_ends f.framing f.padding f.head f.body bytes c.requires.framing steady.0 at
          (λ n e. c.in-None.ensures n (e ∙ ap (λ (h : Header). body_size h.sizes n + padding_data f.head.shape.pad) (sym header.value)
          ∙ ap (λ t. body_size (sizes_value c.header.result.sizes) n + t) (sym header.tail))));
      held = s.held;
    }
