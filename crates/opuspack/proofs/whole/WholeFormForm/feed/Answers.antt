use Rattle.std.proofs.Common.{◌≡◌, ◌++◌, take, arith}
use Rattle.opus_io.proofs.BytesLemmas.{AreBytes-from}
use Rattle.opuspack.proofs.WholeLemmas.{whole_fed}
use Rattle.opuspack.proofs.whole.WholeFormForm.feed.Goals as goal

pub returns-clause-fed : goal.returns-clause-fed
returns-clause-fed c = λ h rs stands size.
    let piece = c.args.piece.now in
    let kept = c.args.self.now.kept.items in
    let items : c.extend_from_slice.new.self.items ≡ kept ++ take c.min-count.result piece =
    rw c.unwrap.ensures at c.extend_from_slice.ensures.items in
    whole_fed h piece kept c.extend_from_slice.new.self.items rs c.min-count.result stands (AreBytes-from piece (λ i. (c.type_inv.piece i).fits))
    (omega (arith, c.min-count.ensures, c.len.ensures, c.args.self.now.kept.ok.0)) items
