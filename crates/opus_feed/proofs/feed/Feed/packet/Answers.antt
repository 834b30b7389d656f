use Rattle.std.proofs.Common.{◌≡◌, subst}
use Rattle.opus_feed.specs.Places.{IsSteady}
use Rattle.opus_feed.specs.Stands.{EndsAt, StandsAt}
use Rattle.opus_feed.specs.declared.place.Place.TheVariants.{Full}
use Rattle.opus_feed.proofs.EndLemmas.{over_ends, full_from_whole}
use Rattle.opus_feed.proofs.PacketLemmas.{packet_read}
use Rattle.opus_feed.proofs.feed.Feed.packet.Goals as goal

pub returns-clause-ended : goal.returns-clause-ended
returns-clause-ended c =
    λ bytes s.
    let f = c.args.self.now in
    let p = c.packet_of in
    let full : f.place ≡ Full = full_from_whole f.place c.requires in
    let steady = subst (λ p. IsSteady f.framing f.padding p f.head f.body) full f.steady in
    let at = subst (λ p. EndsAt f.framing p f.head f.body bytes) full s.at in
    packet_read f.framing f.padding f.head f.body p.result bytes steady s.are_bytes at
    (record { value = p.ensures.value; shape = p.ensures.shape; size = p.ensures.size; tail = p.ensures.tail })

pub returns-clause-stands : goal.returns-clause-stands
returns-clause-stands c =
    λ bytes s.
    let f = c.args.self.now in
    let p = c.packet_of in
    let full : f.place ≡ Full = full_from_whole f.place c.requires in
    let steady = subst (λ p. IsSteady f.framing f.padding p f.head f.body) full f.steady in
    let at = subst (λ p. StandsAt f.framing p f.head f.body bytes) full s.at in
    packet_read f.framing f.padding f.head f.body p.result bytes steady s.are_bytes
    (over_ends f.framing Full f.head f.body bytes tt s.are_bytes at)
    (record { value = p.ensures.value; shape = p.ensures.shape; size = p.ensures.size; tail = p.ensures.tail })
