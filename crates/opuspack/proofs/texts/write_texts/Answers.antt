use Rattle.std.proofs.Common.{◌≡◌, ◌∙◌, arith}
use Rattle.opus_io.proofs.Onward.{Onward-trans}
use Rattle.opuspack.proofs.TextsLemmas.{texts_more, texts_front}
use Rattle.opuspack.proofs.texts.write_texts.Goals as goal

pub returns-in-Err-clause-front : goal.returns-in-Err-clause-front
returns-in-Err-clause-front g c =
    let i = c.loop-index.index in
    let is : c.as_bytes.result.now ≡ g.T.Texts.told c.args.texts.now i =
    c.as_bytes.ensures.value ∙ c.as_str.ensures.value ∙ c.text.ensures in
    texts_front (g.T.Texts.told c.args.texts.now) i (g.T.Texts.number c.args.texts.now) (g.O.Sink.contents c.args.out.now)
    (g.O.Sink.contents c.loop-index.out) (g.O.Sink.contents c.write_all.new.sink) c.as_bytes.result.now
    (omega (arith, c.loop-index-test.true, c.count-index-end.ensures)) is c.loop-index.invariant.written c.in-Err.ensures.front

pub returns-in-Err-clause-onward : goal.returns-in-Err-clause-onward
returns-in-Err-clause-onward g c =
    Onward-trans _ _ _ _ _ _ c.loop-index.invariant.onward c.in-Err.ensures.onward

pub loop-index-preserved : goal.loop-index-preserved
loop-index-preserved g c =
    let v = c.loop-index.invariant in
    let e = c.in_default.ensures in
    let i = c.loop-index.index in
    let is : c.as_bytes.result.now ≡ g.T.Texts.told c.args.texts.now i =
    c.as_bytes.ensures.value ∙ c.as_str.ensures.value ∙ c.text.ensures in
    record {
      written = texts_more (g.T.Texts.told c.args.texts.now) i (g.O.Sink.contents c.args.out.now) (g.O.Sink.contents c.loop-index.out)
          (g.O.Sink.contents c.write_all.new.sink) c.as_bytes.result.now is v.written e.ok;
      writes = e.cause.still ∙ v.writes;
      refusals = omega (arith, v.refusals, e.cause.later_refused);
      onward = Onward-trans _ _ _ _ _ _ v.onward e.onward;
    }
