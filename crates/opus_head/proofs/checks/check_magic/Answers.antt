use Rattle.std.proofs.Common.{sym, ◌∙◌, get_or}
use Rattle.std.proofs.lemmas.Bool.{eq-eqb}
use Rattle.opus_head.specs.HeadBytes.{magic}
use Rattle.opus_head.proofs.MagicLemmas.{SameSoFar-more}
use Rattle.opus_head.proofs.checks.check_magic.Goals as goal

pub loop-place-preserved : goal.loop-place-preserved
loop-place-preserved c =
    let bytes = c.args.bytes.now in
    let place = c.loop-place.place in
    let read = c.in_ok-field.ensures in
    SameSoFar-more bytes place c.loop-place.invariant c.loop-place-test.true read.within
    (eq-eqb (get_or magic place 0) (get_or bytes place 0) (sym c.if-branch-wanted.false ∙ read.byte))
