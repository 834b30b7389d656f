use Rattle.std.proofs.Common.{◌≡◌, [], ◌∷◌, ◌++◌, refl, sym, arith}
use Rattle.std.proofs.lemmas.List.{take_rest}
use Rattle.opus_packet.proofs.SpelledLemmas.{LengthsSoFar-none, LengthsSoFar-more, LengthsSoFar-cut, LengthsSoFar-all}
use Rattle.opus_packet.proofs.spelled.read_lens.Goals as goal

pub loop-init : goal.loop-init
loop-init c = ([], LengthsSoFar-none c.args.count c.args.bytes.now)

pub returns-in_default : goal.returns-in_default
returns-in_default c =
    let l = c.loop in
    LengthsSoFar-cut c.args.count c.args.bytes.now l.counter l.invariant.0 l.sum l.at c.loop-test.true l.invariant.1
    (sym (rw (take_rest c.args.bytes.now l.at, c.in_default.is) at c.read_len.ensures.exact))

pub loop-preserved : goal.loop-preserved
loop-preserved c =
    let l = c.loop in
    let rest = take_rest c.args.bytes.now l.at in (
      l.invariant.0 ++ c.in-Len.value ∷ [],
      LengthsSoFar-more c.args.count c.args.bytes.now l.counter l.invariant.0 l.sum l.at c.in-Len.value c.in-Len.used c.loop-test.true l.invariant.1 (sym (rw rest at c.in-Len.ensures.exact)) (rw rest at c.in-Len.ensures.reads),
    )

pub returns : goal.returns
returns c =
    let l = c.loop in
    let all : l.counter ≡ c.args.count = omega (arith, l.auto.counter-end, c.loop-test.false) in
    LengthsSoFar-all c.args.count c.args.bytes.now l.invariant.0 _ l.at c.requires (rw all at l.invariant.1) refl refl
