use Rattle.std.proofs.Common.{length-drop, arith, ◌∙◌}
use Rattle.std.proofs.Math.Seq.{take-add}
use Rattle.std.proofs.lemmas.List.{take_rest}
use Rattle.std.proofs.KnownBytes.{Appends-trans}
use Rattle.opus_io.proofs.Onward.{Onward-trans}
use Rattle.opus_io.proofs.whole.write_all.Goals as goal

pub loop-at-preserved : goal.loop-at-preserved
loop-at-preserved g c =
    let bytes = c.args.bytes.now in
    let at = c.loop-at.at in
    let now = c.loop-at.invariant in
    let e = c.in_ok-at.ensures in
    let piece = rw (take_rest bytes at) at e.bytes in
    let most = rw (take_rest bytes at) at e.count in
    record {
      in_range = omega (arith, most, length-drop at bytes);
      written = rw (take-add at c.in_ok-at.field-0 bytes) (Appends-trans _ _ _ _ _ now.written piece);
      faults = e.cause.still ∙ now.faults;
      onward = Onward-trans _ _ _ _ _ _ now.onward e.onward;
      refusals = omega (arith, now.refusals, e.cause.later_refused);
    }

pub returns-in_err-at-clause-onward : goal.returns-in_err-at-clause-onward
returns-in_err-at-clause-onward g c =
    Onward-trans _ _ _ _ _ _ c.loop-at.invariant.onward c.write.ensures.onward
