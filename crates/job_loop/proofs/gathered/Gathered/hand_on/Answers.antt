use Rattle.std.proofs.Common.{refl, take, drop, take-append-drop, slice_range, sym, ◌∙◌, subst, arith}
use Rattle.std.specs.Io.KnownBytes.{Keeps, Appends, append_known}
use Rattle.std.proofs.KnownBytes.{Keeps-trans, append_known-moved}
use Rattle.opus_io.proofs.Onward.{Onward-trans}
use Rattle.opus_io.proofs.Slices.{slice_range-advance}
use Rattle.job_loop.proofs.gathered.Gathered.hand_on.Goals as goal

pub loop-self-preserved : goal.loop-self-preserved
loop-self-preserved g c =
    let s = c.loop-self.self in
    let i = c.loop-self.invariant in
    let e = c.in_ok-self.ensures in
    let n = c.in_ok-self.field-0 in
    let xs = s.buffer.items in
    let held = slice_range xs s.start s.end in
    let inner = g.O.Sink.contents s.inner.now in
    let inner' = g.O.Sink.contents c.write.new.self in
    let piece : Appends inner inner' (take n held) = rw c.deref.ensures.value at e.bytes in
    let most = rw c.deref.ensures.value at e.count in
    let rest = slice_range-advance xs s.start s.end n s.ordered most in
    record {
      keeps = Keeps-trans _ _ _ i.keeps
          (subst (λ rest. Keeps (append_known inner held) (append_known inner' rest)) (sym rest)
          (append_known-moved inner inner' (take n held) (drop n held) held piece (sym (take-append-drop n held))));
      faults = e.cause.still ∙ i.faults;
      refusals = omega (arith, i.refusals, e.cause.later_refused);
      onward = Onward-trans _ _ _ _ _ _ i.onward (record { same = refl; grew = (take n held, piece) });
    }
