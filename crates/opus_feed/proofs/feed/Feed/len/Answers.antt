use Rattle.opus_feed.proofs.LenLemmas.{longest_standing, longest_ended}
use Rattle.opus_feed.proofs.feed.Feed.len.Goals as goal

pub returns-clause-stands : goal.returns-clause-stands
returns-clause-stands c =
    λ bytes s.
    let f = c.args.self.now in
    longest_standing f.framing f.padding f.place f.head f.body bytes f.steady s.are_bytes s.at

pub returns-clause-ended : goal.returns-clause-ended
returns-clause-ended c =
    λ bytes s.
    let f = c.args.self.now in
    longest_ended f.framing f.padding f.place f.head f.body bytes f.steady s.are_bytes s.at
