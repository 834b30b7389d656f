use Rattle.std.proofs.lemmas.Result.{err_from_is_err_and}
use Rattle.stream_records.proofs.TurnLemmas.{so_far_nothing, so_far_next, so_far_err}
use Rattle.stream_records.proofs.stream_pieces.StreamPieces.turns.Goals as goal

pub loop-used-init : goal.loop-used-init
loop-used-init c = so_far_nothing c.args.self.now c.args.end c.args.piece.now

pub returns-in_err-used-clause-reads : goal.returns-in_err-used-clause-reads
returns-in_err-used-clause-reads c start bytes size r =
    let old = c.args.self.now in
    let now = c.loop-used in
    let (y, is, same) = err_from_is_err_and c.from_residual.result c.from_residual.ensures.1 in
    rw (is, same)
    (so_far_err old now.self c.turn.new.self c.args.end start c.args.piece.now now.rest.now bytes c.in_err-used.field-0.0
    now.invariant c.in_err-used.ensures.reads size r)

pub loop-used-preserved : goal.loop-used-preserved
loop-used-preserved c =
    let now = c.loop-used in
    let e = c.in_ok-used.ensures in
    rw c.behind-rest.ensures
    (so_far_next c.args.self.now now.self c.turn.new.self c.args.end c.args.piece.now now.rest.now c.in-Some.used
    now.invariant (rw c.in-Some.is at e.reads) e.same)
