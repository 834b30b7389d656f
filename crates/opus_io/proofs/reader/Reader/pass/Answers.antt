use Rattle.std.proofs.Common.{◌≡◌, ◌≤◌, length, drop, slice_range, ap, ◌∙◌, subst, sym}
use Rattle.opus_io.specs.Reader.{ReaderState}
use Rattle.opus_io.proofs.Slices.{slice_range-advance}
use Rattle.opus_io.proofs.reader.Reader.pass.Goals as goal

pub returns-clause-bytes : goal.returns-clause-bytes
returns-clause-bytes c =
    let f = c.self.inside in
    let is : slice_range f.buffer.items f.start f.end ≡ c.args.self.now.bytes =
    ap (λ (k : ReaderState). k.bytes) c.self.view_is in
    let kept = subst (λ bs. c.args.n ≤ length bs) (sym is) c.requires.kept in
    slice_range-advance f.buffer.items f.start f.end c.args.n c.self.invariant.ordered kept
    ∙ ap (drop c.args.n) is
