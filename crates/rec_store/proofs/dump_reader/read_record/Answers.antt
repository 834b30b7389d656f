use Rattle.std.proofs.Common.{◌≡◌, ◌-◌, ◌≤◌, ◌++◌, Err, length, sym, ap, ◌∙◌, subst, arith}
use Rattle.rec_store.specs.DemoReader.{Passed}
use Rattle.rec_store.specs.Taking.{Took, Takes}
use Rattle.rec_store.proofs.RecordReads.{length_stopped, length_cut, rest_stopped}
use Rattle.rec_store.proofs.dump_reader.read_record.Goals as goal

pub returns-in-Err-clause-answer : goal.returns-in-Err-clause-answer
returns-in-Err-clause-answer g c =
    let said = c.in-Err.ensures.answer in
    let old = c.args.input.now in
    let new = c.take_bytes.new.input in
    let left = g.S.Source.left c.args.source.now in
    let left' = g.S.Source.left c.take_bytes.new.source in
    let most : 2 - length c.args.packet.now.items ≡ 2 = omega (arith, ap length c.requires.none) in
    length_stopped c.in-Err.stop c.stopped.result old new left left' said.bytes c.stopped.ensures
    (subst (λ n. Takes n old new left left' said.bytes (Err c.in-Err.stop)) most said.takes) said.are

pub returns-then-len-lt2-clause-answer : goal.returns-then-len-lt2-clause-answer
returns-then-len-lt2-clause-answer g c =
    let said = c.in_default.ensures.answer in
    let old = c.args.input.now in
    let new = c.take_bytes.new.input in
    let left = g.S.Source.left c.args.source.now in
    let left' = g.S.Source.left c.take_bytes.new.source in
    let most : 2 - length c.args.packet.now.items ≡ 2 = omega (arith, ap length c.requires.none) in
    let items : c.take_bytes.new.into.items ≡ said.bytes = said.items ∙ ap (λ l. l ++ said.bytes) c.requires.none in
    let count : length said.bytes ≡ c.len.result =
    omega (arith, c.len.ensures, c.take_bytes.new.into.ok.0, ap length items) in
    let some : 1 ≤ length said.bytes = grind (arith, count, c.len.ensures, c.is_empty.ensures, c.if-is_empty.false) in
    length_cut c.cut_at.result c.passed.result old new left left' said.bytes c.cut_at.ensures c.passed.ensures.value
    (subst (λ n. Took n old new left left' said.bytes) most said.takes) said.are some
    (omega (arith, count, c.if-len-lt2.true))

pub returns-in-Err-take_rest-clause-answer : goal.returns-in-Err-take_rest-clause-answer
returns-in-Err-take_rest-clause-answer g c =
    let said = c.in_default.ensures.answer in
    let old = c.args.input.now in
    let mid = c.take_bytes.new.input in
    let left = g.S.Source.left c.args.source.now in
    let left' = g.S.Source.left c.take_bytes.new.source in
    let came = c.take_bytes.new.into.items in
    let items : came ≡ said.bytes = said.items ∙ ap (λ l. l ++ said.bytes) c.requires.none in
    let some : 1 ≤ length came = omega (arith, c.len.ensures, c.take_bytes.new.into.ok.0, c.if-len-lt2.false) in
    rest_stopped c.in-Err-take_rest.stop old mid c.take_rest.new.input left left' (g.S.Source.left c.take_rest.new.source)
    came some (subst (Passed old mid left left') (sym items) said.takes.passed) c.in-Err-take_rest.ensures.answer
