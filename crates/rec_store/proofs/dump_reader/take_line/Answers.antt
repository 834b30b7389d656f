use Rattle.std.proofs.Common.{◌-◌, ◌++◌, length-append, length-take-le, take, arith}
use Rattle.std.proofs.lemmas.Grind.{common_steps}
use Rattle.rec_store.proofs.TakeLemmas.{Begun-turn, nothing_shown}
use Rattle.rec_store.proofs.OpeningReads.{line_stopped, line_cut, line_read, line_bad}
use Rattle.rec_store.proofs.dump_reader.take_line.Goals as goal

pub returns-in-Err-clause-answer : goal.returns-in-Err-clause-answer
returns-in-Err-clause-answer g c =
    line_stopped c.in-Err.stop c.stopped.result c.line.seen c.args.input.now c.line.input c.look.new.self
    (g.S.Source.left c.args.source.now) (g.S.Source.left c.line.source) (g.S.Source.left c.look.new.source)
    c.look.result c.stopped.ensures c.in-Err.is c.line.invariant.line c.look.ensures.looked

pub returns-in-Ok-eq0-clause-answer : goal.returns-in-Ok-eq0-clause-answer
returns-in-Ok-eq0-clause-answer g c =
    let looked = rw c.in-Ok-eq0.is at c.look.ensures.looked in
    line_cut c.cut_at.result c.line.seen c.passed.result c.args.input.now c.line.input c.look.new.self
    (g.S.Source.left c.args.source.now) (g.S.Source.left c.line.source) (g.S.Source.left c.look.new.source)
    c.cut_at.ensures c.passed.ensures.value c.line.invariant.line looked.stays
    (nothing_shown c.look.new.self (g.S.Source.left c.look.new.source) (looked.end (omega (arith, c.in-Ok-eq0.field-0-test))))

pub line-preserved : goal.line-preserved
line-preserved g c =
    let looked = rw c.in-Ok.is at c.look.ensures.looked in
    let n = c.in-More.count in
    let shown = c.shown.result.now in
    let line = c.line.invariant.line in
    record {
      line = record {
        bytes = line.bytes ++ take n shown;
        begun = Begun-turn c.args.input.now c.line.input c.look.new.self c.pass.new.self
            (g.S.Source.left c.args.source.now) (g.S.Source.left c.line.source) (g.S.Source.left c.look.new.source)
            line.bytes shown n line.begun looked.stays c.shown.ensures.value c.in-More.ensures.some c.in-More.ensures.most
            c.pass.ensures.bytes c.pass.ensures.passed c.pass.ensures.limit c.pass.ensures.in_limit;
        part = c.in-More.ensures.is line.bytes line.part line.count;
        count = omega (arith, line.count, length-append line.bytes (take n shown), length-take-le n shown c.in-More.ensures.most);
      };
      room = c.in-More.ensures.room;
      cause = grind (arith, common_steps, c.look.ensures.cause.still, c.line.invariant.cause);
    }

pub returns-in-Whole-clause-answer : goal.returns-in-Whole-clause-answer
returns-in-Whole-clause-answer g c =
    let looked = rw c.in-Ok.is at c.look.ensures.looked in
    let n = c.in-Whole.count in
    let shown = c.shown.result.now in
    let line = c.line.invariant.line in
    line_read c.args.input.now c.pass-in-Whole.new.self (g.S.Source.left c.args.source.now)
    (g.S.Source.left c.look.new.source) (line.bytes ++ take n shown)
    (Begun-turn c.args.input.now c.line.input c.look.new.self c.pass-in-Whole.new.self
    (g.S.Source.left c.args.source.now) (g.S.Source.left c.line.source) (g.S.Source.left c.look.new.source)
    line.bytes shown n line.begun looked.stays c.shown.ensures.value c.in-Whole.ensures.some c.in-Whole.ensures.most
    c.pass-in-Whole.ensures.bytes c.pass-in-Whole.ensures.passed c.pass-in-Whole.ensures.limit
    c.pass-in-Whole.ensures.in_limit) (c.in-Whole.ensures.is line.bytes line.part line.count)
    (omega (arith, c.in-Whole.ensures.some, length-append line.bytes (take n shown), length-take-le n shown c.in-Whole.ensures.most))

pub returns-in-Bad-clause-answer : goal.returns-in-Bad-clause-answer
returns-in-Bad-clause-answer g c =
    let looked = rw c.in-Ok.is at c.look.ensures.looked in
    let n = c.in-Bad.count in
    let shown = c.shown.result.now in
    let line = c.line.invariant.line in
    line_bad (c.passed-place.result - 1) c.args.input.now c.pass-in-Bad.new.self (g.S.Source.left c.args.source.now)
    (g.S.Source.left c.look.new.source) (line.bytes ++ take n shown)
    (Begun-turn c.args.input.now c.line.input c.look.new.self c.pass-in-Bad.new.self
    (g.S.Source.left c.args.source.now) (g.S.Source.left c.line.source) (g.S.Source.left c.look.new.source)
    line.bytes shown n line.begun looked.stays c.shown.ensures.value c.in-Bad.ensures.some c.in-Bad.ensures.most
    c.pass-in-Bad.ensures.bytes c.pass-in-Bad.ensures.passed c.pass-in-Bad.ensures.limit
    c.pass-in-Bad.ensures.in_limit) (c.in-Bad.ensures.is line.bytes line.part line.count)
    (omega (arith, c.passed-place.ensures.value, c.pass-in-Bad.ensures.passed, c.in-Bad.ensures.some))
