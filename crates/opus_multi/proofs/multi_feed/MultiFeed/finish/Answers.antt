use Rattle.std.proofs.Common.{subst}
use Rattle.opus_multi.specs.MultiStands.{MultiStandsAt}
use Rattle.opus_multi.proofs.TakenLemmas.{end_ended, end_finishes, failed_ends, failed_finishes}
use Rattle.opus_multi.proofs.multi_feed.MultiFeed.finish.Goals as goal

pub returns-in-Reading-clause-answer : goal.returns-in-Reading-clause-answer
returns-in-Reading-clause-answer c bytes s =
    let m = c.args.self.now in
    end_finishes m c.end.new.self bytes c.end.result c.end.ensures.same
    (c.end.ensures.ends bytes (subst (λ p. MultiStandsAt p m bytes) c.in-Reading.is s.at))

pub returns-in-Reading-clause-ended : goal.returns-in-Reading-clause-ended
returns-in-Reading-clause-ended c bytes s =
    end_ended c.end.new.self bytes c.end.result s.are_bytes c.end.ensures.tells
    (c.end.ensures.ends bytes (subst (λ p. MultiStandsAt p c.args.self.now bytes) c.in-Reading.is s.at))

pub returns-in-Failed-clause-ended : goal.returns-in-Failed-clause-ended
returns-in-Failed-clause-ended c bytes s =
    let m = c.args.self.now in
    failed_ends m c.in-Failed.fault bytes c.in-Failed.is s.are_bytes (subst (λ p. MultiStandsAt p m bytes) c.in-Failed.is s.at)

pub returns-in-Failed-clause-answer : goal.returns-in-Failed-clause-answer
returns-in-Failed-clause-answer c bytes s =
    let m = c.args.self.now in
    failed_finishes m c.in-Failed.fault bytes s.are_bytes (subst (λ p. MultiStandsAt p m bytes) c.in-Failed.is s.at)
