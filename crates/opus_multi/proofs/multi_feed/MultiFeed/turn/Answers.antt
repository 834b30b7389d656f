use Rattle.std.proofs.Common.{length, Err, refl, sym, subst, arith}
use Rattle.opus_multi.specs.MultiTurns.{TurnReads}
use Rattle.opus_multi.proofs.TurnLemmas.{reads_on, reads_next, refused, more_streams}
use Rattle.opus_multi.proofs.multi_feed.MultiFeed.turn.Goals as goal

pub returns-in-More-clause-reads : goal.returns-in-More-clause-reads
returns-in-More-clause-reads c bytes r =
    reads_on c.args.self.now _ bytes c.args.piece.now refl refl refl c.feed.ensures.padding c.feed.ensures.framing c.feed.ensures.stands c.in-More.ensures.tells r

pub returns-in-Refused-clause-reads : goal.returns-in-Refused-clause-reads
returns-in-Refused-clause-reads c bytes r =
    let old = c.args.self.now in
    let new = c.refuse.new.self in
    let e = c.refuse.ensures in
    subst (λ f. TurnReads old bytes c.args.piece.now (Err f) new) (sym e.fault)
    (refused old new c.feed.new.self (length old.parts.items) c.in-Refused.fault bytes c.args.piece.now refl e.streams e.parts (rw e.feed c.feed.ensures.padding) c.feed.ensures.framing c.feed.ensures.stands c.in-Refused.ensures.tells r)

pub returns-in-Ok-clause-reads : goal.returns-in-Ok-clause-reads
returns-in-Ok-clause-reads c bytes r =
    let e = c.in-Done.ensures in
    let kept = c.in-Ok.ensures in
    reads_next c.args.self.now _ c.keep.new.self c.in-Done.used bytes c.args.piece.now refl refl refl e.padding e.framing kept.same.streams kept.same.padding e.stands e.ends e.tells.1 (omega (arith, c.if-len-from.true, c.len.ensures, c.from.ensures)) kept.ok r

pub returns-in-Err-clause-reads : goal.returns-in-Err-clause-reads
returns-in-Err-clause-reads c bytes r =
    more_streams c.args.self.now c.in-Done.used bytes c.args.piece.now c.in-Done.ensures.answer (omega (arith, c.if-len-from.true, c.len.ensures, c.from.ensures)) r
