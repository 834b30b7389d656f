use Rattle.std.proofs.Common.{◌≡◌, ◌+◌, ◌++◌, length, sym, subst, length-append, arith}
use Rattle.opus_feed.specs.declared.step.Step.TheVariants.{Done, Refused}
use Rattle.opus_feed.specs.Feeds.{Tells}
use Rattle.opus_feed.specs.Answers.{Answers, Ends}
use Rattle.pack_records.specs.Pieces.{shown_by, IsKeptOf}
use Rattle.pack_records.proofs.TakenLemmas.{packet_taken, answers_refuses, refused_at, bad_taken}
use Rattle.pack_records.proofs.pieces.Pieces.take.Goals as goal

pub returns-in-Done-clause-taken : goal.returns-in-Done-clause-taken
returns-in-Done-clause-taken c h s at =
    let all = h ++ c.args.piece.now in
    packet_taken c.keep.new.self c.args.self.now.framing c.feed.new.self c.args.start c.args.range c.args.at
    c.in-Done.used c.max-count.result h c.args.piece.now c.keep.ensures.same.framing (c.feed.ensures.stands h s.stands)
    (subst (λ f. Answers f all (Done c.in-Done.used)) c.args.self.now.framing_is
    (subst (λ r. Answers c.args.self.now.feed.framing all r) c.in-Done.is (c.feed.ensures.answer h s.stands)))
    (subst (λ r. Ends (length h) all r) c.in-Done.is (c.feed.ensures.ends h s.stands s.reading))
    (subst (λ r. Tells r c.feed.new.self (length c.args.piece.now)) c.in-Done.is c.feed.ensures.tells).1
    s.open_is at (λ some. omega (arith, c.max-count.ensures))
    (λ own. subst (λ p. IsKeptOf (shown_by c.keep.new.self own) p c.args.self.now.framing c.args.start
    (c.args.at + c.max-count.result) c.args.range c.feed.new.self) (sym c.keep.ensures.same.padding)
    (c.keep.ensures.packet own))

pub returns-in-Refused-clause-taken : goal.returns-in-Refused-clause-taken
returns-in-Refused-clause-taken c h s at =
    let all = h ++ c.args.piece.now in
    let f = c.in-Refused.fault in
    let are = (c.feed.ensures.stands h s.stands).are_bytes in
    let refuses = answers_refuses c.args.self.now.framing f all
    (subst (λ g. Answers g all (Refused f)) c.args.self.now.framing_is
    (subst (λ r. Answers c.args.self.now.feed.framing all r) c.in-Refused.is (c.feed.ensures.answer h s.stands))) in
    let (low, high) = refused_at c.args.self.now.framing f h c.args.piece.now are s.open_is refuses in
    let size = length-append h c.args.piece.now in
    let fits = c.requires.fits in
    let first = c.saturating_add.ensures in
    let place : c.saturating_add-place.result ≡ c.args.start + f.place + 1 = omega (arith, c.saturating_add-place.ensures) in
    bad_taken c.refuse.new.self c.args.self.now.framing f c.args.start c.args.range c.saturating_add-place.result
    c.min.result h c.args.piece.now c.refuse.ensures.same.framing are refuses low high place
    (omega (arith, c.min.ensures, c.max.ensures, c.saturating_sub-count.ensures)) c.refuse.ensures.shown
