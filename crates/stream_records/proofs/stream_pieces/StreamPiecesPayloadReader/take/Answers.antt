use Rattle.std.proofs.Common.{◌≡◌, ◌+◌, ◌++◌, length, length-append, arith}
use Rattle.stream_records.specs.StreamPieces.{HasRefused}
use Rattle.stream_records.specs.HoldsLaws.{stand_sizes}
use Rattle.stream_records.proofs.TakenLemmas.{bad_taken}
use Rattle.stream_records.proofs.stream_pieces.StreamPiecesPayloadReader.take.Goals as goal

pub returns-in-Err-clause-taken : goal.returns-in-Err-clause-taken
returns-in-Err-clause-taken c h r at =
    let mid = c.turns.new.self in
    let f = c.in-Err.fault in
    let piece = c.args.piece.now in
    let refused : HasRefused mid c.args.start f (length h) (h ++ piece) =
    c.in-Err.ensures.reads c.args.start h (omega (arith, at)) r in
    let sizes = stand_sizes refused.first (h ++ piece) refused.rest refused.stand in
    let all = length-append h piece in
    let low = refused.low in
    let high = refused.high in
    let began = refused.begun_is in
    let fits = c.requires.fits in
    let first = c.saturating_add.ensures in
    let place : c.saturating_add-place.result ≡ mid.begun + f.place + 1 =
    omega (arith, c.saturating_add.ensures, c.saturating_add-place.ensures, sizes, all, high, began, fits, at) in
    bad_taken mid c.refuse.new.self f c.args.start c.args.range c.saturating_add-place.result c.min.result h piece
    c.refuse.ensures.same refused place
    (omega (arith, c.min.ensures, c.max.ensures, c.saturating_sub-count.ensures, place, low, high, sizes, all, began, at))
    c.refuse.ensures.shown
