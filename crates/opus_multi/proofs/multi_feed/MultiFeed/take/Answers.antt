use Rattle.std.proofs.lemmas.Result.{err_from_is_err_and}
use Rattle.opus_multi.proofs.TakenLemmas.{so_far_next, so_far_err}
use Rattle.opus_multi.proofs.multi_feed.MultiFeed.take.Goals as goal

pub returns-in_err-used-clause-reads : goal.returns-in_err-used-clause-reads
returns-in_err-used-clause-reads c bytes r =
    let old = c.args.self.now in
    let now = c.loop-used in
    let (y, is, same) = err_from_is_err_and c.from_residual.result c.from_residual.ensures.1 in
    rw (is, same) (so_far_err old now.self c.turn.new.self c.args.piece.now now.rest.now bytes c.in_err-used.field-0.0 now.invariant c.in_err-used.ensures.reads r)

pub loop-used-preserved : goal.loop-used-preserved
loop-used-preserved c =
    let now = c.loop-used in
    let e = c.in_ok-used.ensures in
    rw c.behind-rest.ensures
    (so_far_next c.args.self.now now.self c.turn.new.self c.args.piece.now now.rest.now c.in-Some.used now.invariant (rw c.in-Some.is at e.reads) (rw c.in-Some.is at e.turned) e.same)
