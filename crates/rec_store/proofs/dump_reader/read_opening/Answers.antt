use Rattle.std.proofs.Common.{subst, arith}
use Rattle.rec_store.specs.DumpStore.{IsDumpHead}
use Rattle.rec_store.proofs.OpeningReads.{head_stopped, head_cut, head_whole}
use Rattle.rec_store.proofs.dump_reader.read_opening.Goals as goal

pub returns-in-Err-take_head-clause-answer : goal.returns-in-Err-take_head-clause-answer
returns-in-Err-take_head-clause-answer g c =
    head_stopped c.in-Err-take_head.stop c.stopped.result c.args.input.now c.take_line.new.input c.take_head.new.input
    (g.S.Source.left c.args.source.now) (g.S.Source.left c.take_line.new.source)
    (g.S.Source.left c.take_head.new.source) c.take_head.new.head.items c.stopped.ensures c.in_default.ensures.answer
    c.in-Err-take_head.ensures.answer c.take_head.ensures.are

pub returns-then-len-lt-DUMP_HEAD_LEN-clause-answer : goal.returns-then-len-lt-DUMP_HEAD_LEN-clause-answer
returns-then-len-lt-DUMP_HEAD_LEN-clause-answer g c =
    head_cut c.cut_at.result c.passed.result c.args.input.now c.take_line.new.input c.take_head.new.input
    (g.S.Source.left c.args.source.now) (g.S.Source.left c.take_line.new.source)
    (g.S.Source.left c.take_head.new.source) c.take_head.new.head.items c.cut_at.ensures c.passed.ensures.value
    c.in_default.ensures.answer c.in_default-take_head.ensures.answer c.take_head.ensures.are
    (omega (arith, c.if-len-lt-DUMP_HEAD_LEN.true, c.len.ensures.value))

pub returns-clause-answer : goal.returns-clause-answer
returns-clause-answer g c =
    head_whole c.read.result c.args.input.now c.take_line.new.input c.take_head.new.input
    (g.S.Source.left c.args.source.now) (g.S.Source.left c.take_line.new.source)
    (g.S.Source.left c.take_head.new.source) c.take_head.new.head.items c.in_default.ensures.answer
    c.in_default-take_head.ensures.answer (omega (arith, c.if-len-lt-DUMP_HEAD_LEN.false, c.len.ensures.value))
    (subst (IsDumpHead c.read.result) c.as_slice.ensures.value c.read.ensures)
