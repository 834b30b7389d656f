use Rattle.std.proofs.Common.{length, Err, refl, sym, subst}
use Rattle.opus_multi.specs.MultiTurns.{EndReads}
use Rattle.opus_multi.proofs.EndLemmas.{ends_broken, last_reads}
use Rattle.opus_multi.proofs.multi_feed.MultiFeed.end.Goals as goal

pub returns-in-Ok-clause-ends : goal.returns-in-Ok-clause-ends
returns-in-Ok-clause-ends c bytes r =
    let e = c.in-Ok.ensures in
    last_reads c.args.self.now _ c.end_last.new.self bytes c.end_last.result refl refl refl e.framing e.padding e.ended e.answer c.end_last.ensures.ends c.end_last.ensures.same r

pub returns-in-Err-clause-ends : goal.returns-in-Err-clause-ends
returns-in-Err-clause-ends c bytes r =
    let old = c.args.self.now in
    let new = c.refuse.new.self in
    let e = c.refuse.ensures in
    subst (λ f. EndReads bytes (Err f) new) (sym e.fault)
    (ends_broken old new (length old.parts.items) c.in-Err.fault bytes refl e.streams e.parts (rw e.feed c.in-Err.ensures.padding) c.in-Err.ensures.answer r)
