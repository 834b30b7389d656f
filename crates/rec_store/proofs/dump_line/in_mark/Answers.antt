use Rattle.std.proofs.Common.{◌≡◌, ◌<◌, length-take, sym, ◌∙◌, arith}
use Rattle.std.proofs.lemmas.List.{get_or-take}
use Rattle.rec_store.proofs.LineSteps.{mark_next, mark_taken, mark_ends}
use Rattle.rec_store.proofs.dump_line.in_mark.Goals as goal

pub returns-then-byte-seen-clause-is : goal.returns-then-byte-seen-clause-is
returns-then-byte-seen-clause-is c = λ h part size.
    let at = c.loop-at.at in
    let most = c.min-most.result in
    let piece = c.args.piece.now in
    let looked : at < most = omega (arith, c.loop-at-test.true, length-take most piece) in
    mark_ends h piece c.args.seen at part size (omega (arith, looked, c.min-most.ensures))
    (omega (arith, looked, c.min-most.ensures)) c.loop-at.invariant
    (λ same. c.if-byte-seen.true (get_or-take most piece at 0 looked ∙ same))

pub loop-at-preserved : goal.loop-at-preserved
loop-at-preserved c =
    let at = c.loop-at.at in
    let most = c.min-most.result in
    let piece = c.args.piece.now in
    let looked : at < most = omega (arith, c.loop-at-test.true, length-take most piece) in
    mark_next c.args.seen at piece (omega (arith, looked, c.min-most.ensures))
    (omega (arith, looked, c.min-most.ensures)) c.loop-at.invariant
    (sym (get_or-take most piece at 0 looked) ∙ c.if-byte-seen.false)

pub returns-clause-is : goal.returns-clause-is
returns-clause-is c = λ h part size.
    let most = c.min-most.result in
    let piece = c.args.piece.now in
    let all : c.loop-at.at ≡ most =
    omega (arith, c.loop-at-test.false, c.loop-at.auto.at-end, length-take most piece, c.min-most.ensures) in
    mark_taken h piece c.args.seen most part size (omega (arith, c.min-most.ensures)) (rw all at c.loop-at.invariant)
