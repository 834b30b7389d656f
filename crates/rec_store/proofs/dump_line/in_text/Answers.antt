use Rattle.std.proofs.Common.{◌≡◌, ◌<◌, length-take, sym, ◌∙◌, arith}
use Rattle.std.proofs.lemmas.List.{get_or-take}
use Rattle.rec_store.proofs.LineSteps.{text_ends, text_full}
use Rattle.rec_store.proofs.dump_line.in_text.Goals as goal

pub returns-then-byte-eq10-clause-is : goal.returns-then-byte-eq10-clause-is
returns-then-byte-eq10-clause-is c = λ h part size.
    let at = c.loop-at.at in
    let most = c.min-most.result in
    let piece = c.args.piece.now in
    let looked : at < most = omega (arith, c.loop-at-test.true, length-take most piece) in
    text_ends h piece c.args.seen at part size (omega (arith, looked, c.min-most.ensures))
    (omega (arith, looked, c.min-most.ensures)) c.loop-at.invariant
    (sym (get_or-take most piece at 0 looked) ∙ c.if-byte-eq10.true)

pub returns-then-seen-most-eq-MOST-clause-is : goal.returns-then-seen-most-eq-MOST-clause-is
returns-then-seen-most-eq-MOST-clause-is c = λ h part size.
    let most = c.min-most.result in
    let piece = c.args.piece.now in
    let all : c.loop-at.at ≡ most =
    omega (arith, c.loop-at-test.false, c.loop-at.auto.at-end, length-take most piece, c.min-most.ensures) in
    text_full h piece c.args.seen most part size (omega (arith, c.min-most.ensures)) c.if-seen-most-eq-MOST.true
    (rw all at c.loop-at.invariant)
