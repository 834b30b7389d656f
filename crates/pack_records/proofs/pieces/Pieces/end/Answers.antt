use Rattle.std.proofs.Common.{Ok, Err, sym, subst}
use Rattle.opus_feed.specs.Answers.{Finishes}
use Rattle.pack_records.specs.Holds.{Holds}
use Rattle.pack_records.specs.Pieces.{shown_by, IsKeptOf}
use Rattle.pack_records.proofs.TakenLemmas.{packet_ended, bad_ended}
use Rattle.pack_records.proofs.pieces.Pieces.end.Goals as goal

pub returns-in-Ok-clause-holds : goal.returns-in-Ok-clause-holds
returns-in-Ok-clause-holds c h s at own =
    subst (λ p. Holds p c.args.self.now.framing c.args.start c.args.range h (shown_by c.keep.new.self own))
    c.keep.ensures.same.padding
    (packet_ended c.keep.new.self c.args.self.now.framing c.finish.new.self c.args.start c.args.range c.args.at h own
    (c.finish.ensures.ended h s.stands) s.open_is
    (subst (λ f. Finishes f h (Ok tt)) c.args.self.now.framing_is
    (subst (λ r. Finishes c.args.self.now.feed.framing h r) c.in-Ok.is (c.finish.ensures.answer h s.stands))) at
    (subst (λ p. IsKeptOf (shown_by c.keep.new.self own) p c.args.self.now.framing c.args.start c.args.at c.args.range
    c.finish.new.self) (sym c.keep.ensures.same.padding) (c.keep.ensures.packet own)))

pub returns-in-Err-clause-holds : goal.returns-in-Err-clause-holds
returns-in-Err-clause-holds c h s at own =
    let (none, is) = subst (λ f. Finishes f h (Err c.in-Err.fault)) c.args.self.now.framing_is
    (subst (λ r. Finishes c.args.self.now.feed.framing h r) c.in-Err.is (c.finish.ensures.answer h s.stands)) in
    subst (λ p. Holds p c.args.self.now.framing c.args.start c.args.range h (shown_by c.refuse.new.self own))
    c.refuse.ensures.same.padding
    (bad_ended c.refuse.new.self c.args.self.now.framing c.in-Err.fault c.args.start c.args.range c.args.at h own
    s.stands.are_bytes s.open_is none is at (c.refuse.ensures.shown own))
