use Rattle.std.proofs.Common.{◌≡◌, ◌+◌, ◌-◌, ◌≤◌, ◌++◌, ◌∙◌, length, length-append, length-take, take, ap, append_assoc, arith, rules}
use Rattle.std.proofs.lemmas.Grind.{common_steps}
use Rattle.opus_io.proofs.BytesLemmas.{AreBytes-append}
use Rattle.rec_store.proofs.TakeLemmas.{Begun-turn, kept-turn}
use Rattle.rec_store.proofs.take.take_bytes.Goals as goal

pub bytes-preserved : goal.bytes-preserved
bytes-preserved g c =
    let looked = rw c.in_ok-ahead.was at c.look.ensures.looked in
    let n = c.min-count.result in
    let shown = c.shown.result.now in
    let some : 1 ≤ n = grind (arith, c.min-count.ensures, c.count.ensures, c.count-in-bytes.ensures, c.if-ahead-eq0.false) in
    let within : n ≤ length shown =
    omega (arith, c.min-count.ensures, looked.shown, ap length c.shown.ensures.value) in
    let own = take n shown in
    let look = c.look.new.self in
    let before = c.bytes.invariant.behind in
    let into = g.R.Room.items c.args.into.now in
    let held = g.R.Room.items c.bytes.into in
    let items : g.R.Room.items c.put.new.self ≡ held ++ own = c.put.ensures.items in
    let more : length (g.R.Room.items c.put.new.self) ≡ length held + n =
    omega (arith, ap length items, length-append held own, length-take n shown, within) in
    let came : length held ≡ length into + length before.bytes =
    ap length before.items ∙ length-append into before.bytes in
    let short = c.bytes-test.true in
    record {
      behind = record {
        bytes = before.bytes ++ own;
        items = items ∙ ap (λ l. l ++ own) before.items ∙ append_assoc into before.bytes own;
        are = AreBytes-append before.bytes own before.are c.put.ensures.are;
        begun = Begun-turn c.args.input.now c.bytes.input look c.pass.new.self
            (g.S.Source.left c.args.source.now) (g.S.Source.left c.bytes.source) (g.S.Source.left c.look.new.source)
            before.bytes shown n before.begun looked.stays c.shown.ensures.value some within c.pass.ensures.bytes
            c.pass.ensures.passed c.pass.ensures.limit c.pass.ensures.in_limit;
      };
      few = omega (arith, more, c.min-count.ensures, c.count.ensures, c.count-in-bytes.ensures, short);
      room = search rules;
      within = λ _. c.pass.ensures.in_limit;
      untouched = λ enough fits.
          let kept = c.bytes.invariant.untouched enough fits in
          let turn = kept-turn (c.args.most - length into) c.args.input.now c.bytes.input look c.pass.new.self
          (g.S.Source.left c.bytes.source) (g.S.Source.left c.look.new.source) before.bytes n enough
          (omega (arith, short, c.count.ensures, came)) (omega (arith, kept.1, came)) looked.stays
          (omega (arith, within, ap length c.shown.ensures.value, length-take (look.limit - look.passed) look.bytes)) c.pass.ensures.bytes in
          (c.look.ensures.untouched turn.0 ∙ kept.0, omega (arith, turn.1, more, came));
      cause = grind (arith, common_steps, c.in_ok-ahead.ensures.cause.still, c.bytes.invariant.cause);
    }
