use Rattle.std.proofs.Common.{arith}
use Rattle.rec_store.proofs.TakeLemmas.{HeadCut-front}
use Rattle.rec_store.proofs.demo.read_head.Goals as goal

pub returns-in_default-len-clause-answer : goal.returns-in_default-len-clause-answer
returns-in_default-len-clause-answer g c =
    let front = c.in_default.ensures.answer in
    HeadCut-front c.args.input.now c.take_head.new.input (g.S.Source.left c.args.source.now)
    (g.S.Source.left c.take_head.new.source) c.take_head.new.head.items c.passed.result front
    (omega (arith, front.fits, c.len.ensures.value)) (omega (arith, front.fits, c.len.ensures.value)) c.passed.ensures.value
