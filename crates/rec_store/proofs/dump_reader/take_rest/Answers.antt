use Rattle.std.proofs.Common.{◌≡◌, ◌+◌, ◌-◌, ◌++◌, Err, length, length-append, ap, ◌∙◌, subst, arith, rules}
use Rattle.rec_store.specs.DumpTaking.{head_bytes}
use Rattle.rec_store.specs.Taking.{Took, Takes}
use Rattle.rec_store.proofs.RecordReads.{head_stopped, head_cut, rest_taken}
use Rattle.rec_store.proofs.dump_reader.take_rest.Goals as goal

pub returns-in-Err-clause-answer : goal.returns-in-Err-clause-answer
returns-in-Err-clause-answer g c =
    let said = c.in-Err.ensures.answer in
    let old = c.args.input.now in
    let new = c.take_bytes.new.input in
    let left = g.S.Source.left c.args.source.now in
    let left' = g.S.Source.left c.take_bytes.new.source in
    let most : 8 - length c.args.packet.now.items ≡ 6 = omega (arith, ap length c.requires.first) in
    head_stopped c.in-Err.stop c.stopped.result c.args.length old new left left' c.args.packet.now.items said.bytes
    c.stopped.ensures c.requires.first c.requires.long (search rules) said.are
    (subst (λ n. Takes n old new left left' said.bytes (Err c.in-Err.stop)) most said.takes)

pub returns-then-len-lt8-clause-answer : goal.returns-then-len-lt8-clause-answer
returns-then-len-lt8-clause-answer g c =
    let said = c.in_default.ensures.answer in
    let old = c.args.input.now in
    let new = c.take_bytes.new.input in
    let left = g.S.Source.left c.args.source.now in
    let left' = g.S.Source.left c.take_bytes.new.source in
    let came = c.args.packet.now.items in
    let two = ap length c.requires.first in
    let most : 8 - length c.args.packet.now.items ≡ 6 = omega (arith, two) in
    let count : length came + length said.bytes ≡ c.len.result =
    omega (arith, c.len.ensures, c.take_bytes.new.into.ok.0, ap length said.items, length-append came said.bytes) in
    head_cut c.cut_at.result c.args.length c.passed.result old new left left' came said.bytes c.cut_at.ensures
    c.passed.ensures.value c.requires.first c.requires.long (search rules) said.are
    (subst (λ n. Took n old new left left' said.bytes) most said.takes) (omega (arith, count, two, c.if-len-lt8.true))

pub returns-clause-answer : goal.returns-clause-answer
returns-clause-answer g c =
    let said = c.in_default.ensures.answer in
    let old = c.args.input.now in
    let mid = c.take_bytes.new.input in
    let left = g.S.Source.left c.args.source.now in
    let left' = g.S.Source.left c.take_bytes.new.source in
    let came = c.args.packet.now.items in
    let two = ap length c.requires.first in
    let most : 8 - length c.args.packet.now.items ≡ 6 = omega (arith, two) in
    let count : length came + length said.bytes ≡ c.len.result =
    omega (arith, c.len.ensures, c.take_bytes.new.into.ok.0, ap length said.items, length-append came said.bytes) in
    let head : head_bytes c.read-head.result ≡ came ++ said.bytes =
    c.read-head.ensures ∙ c.as_slice.ensures.value ∙ said.items in
    rest_taken c.read-head.result old mid c.take_kept.new.input left left' (g.S.Source.left c.take_kept.new.source) came
    said.bytes c.take_kept.new.packet.items c.take_kept.result head
    (subst (λ n. Took n old mid left left' said.bytes) most said.takes)
    (omega (arith, count, two, c.if-len-lt8.false)) c.take_kept.ensures.answer
