use Rattle.std.proofs.Common.{◌≡◌, ◌-◌, ◌++◌, Err, length, take, ap, ◌∙◌, subst, arith, rules}
use Rattle.rec_store.specs.Taking.{Took, Takes}
use Rattle.rec_store.proofs.RecordReads.{IsHead, kept_stopped, kept_cut, kept_read}
use Rattle.rec_store.proofs.dump_reader.take_kept.Goals as goal

pub returns-in-Err-clause-answer : goal.returns-in-Err-clause-answer
returns-in-Err-clause-answer g c =
    let head = c.args.head in
    let said = c.in-Err.ensures.answer in
    let old = c.args.input.now in
    let new = c.take_bytes.new.input in
    let left = g.S.Source.left c.args.source.now in
    let left' = g.S.Source.left c.take_bytes.new.source in
    let is : IsHead head = record {
      long = c.requires.long;
      fits = search rules;
      packet_fits = search rules;
      offset_fits = search rules;
    } in
    let most : c.from-kept.result - 8 - length c.clear.new.self.items ≡ head.length - 8 =
    omega (arith, c.from-kept.ensures, ap length c.clear.ensures.items) in
    kept_stopped c.in-Err.stop c.stopped.result head old new left left' said.bytes c.stopped.ensures is
    (subst (λ n. Takes n old new left left' said.bytes (Err c.in-Err.stop)) most said.takes)

pub returns-then-len-kept-clause-answer : goal.returns-then-len-kept-clause-answer
returns-then-len-kept-clause-answer g c =
    let head = c.args.head in
    let said = c.in_default.ensures.answer in
    let old = c.args.input.now in
    let new = c.take_bytes.new.input in
    let left = g.S.Source.left c.args.source.now in
    let left' = g.S.Source.left c.take_bytes.new.source in
    let is : IsHead head = record {
      long = c.requires.long;
      fits = search rules;
      packet_fits = search rules;
      offset_fits = search rules;
    } in
    let most : c.from-kept.result - 8 - length c.clear.new.self.items ≡ head.length - 8 =
    omega (arith, c.from-kept.ensures, ap length c.clear.ensures.items) in
    let items : c.take_bytes.new.into.items ≡ said.bytes = said.items ∙ ap (λ l. l ++ said.bytes) c.clear.ensures.items in
    let count : length said.bytes ≡ c.len.result =
    omega (arith, c.len.ensures, c.take_bytes.new.into.ok.0, ap length items) in
    kept_cut c.cut_at.result head c.passed.result old new left left' said.bytes c.cut_at.ensures c.passed.ensures.value is
    (subst (λ n. Took n old new left left' said.bytes) most said.takes)
    (omega (arith, count, c.if-len-kept.true, c.from-kept.ensures))

pub returns-clause-answer : goal.returns-clause-answer
returns-clause-answer g c =
    let head = c.args.head in
    let said = c.in_default.ensures.answer in
    let old = c.args.input.now in
    let new = c.take_bytes.new.input in
    let left = g.S.Source.left c.args.source.now in
    let left' = g.S.Source.left c.take_bytes.new.source in
    let is : IsHead head = record {
      long = c.requires.long;
      fits = search rules;
      packet_fits = search rules;
      offset_fits = search rules;
    } in
    let most : c.from-kept.result - 8 - length c.clear.new.self.items ≡ head.length - 8 =
    omega (arith, c.from-kept.ensures, ap length c.clear.ensures.items) in
    let items : c.take_bytes.new.into.items ≡ said.bytes = said.items ∙ ap (λ l. l ++ said.bytes) c.clear.ensures.items in
    let count : length said.bytes ≡ c.len.result =
    omega (arith, c.len.ensures, c.take_bytes.new.into.ok.0, ap length items) in
    kept_read head c.item.result c.packet_size.result c.truncate.new.self.items old new left left' said.bytes is
    (subst (λ n. Took n old new left left' said.bytes) most said.takes)
    (omega (arith, count, c.if-len-kept.false, c.from-kept.ensures)) c.item.ensures.offset c.item.ensures.kind
    c.packet_size.ensures.value
    (c.truncate.ensures.items ∙ ap (λ n. take n c.take_bytes.new.into.items) c.from.ensures
    ∙ ap (take c.packet_size.result) items)
