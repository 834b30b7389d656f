use Rattle.std.proofs.Common.{◌≡◌, ◌++◌, sym, ap, ◌∙◌, subst}
use Rattle.opus_io.proofs.BytesLemmas.{AreBytes-from}
use Rattle.dump_records.specs.DumpForm.{InRecord}
use Rattle.dump_records.proofs.StandLemmas.{record_begins}
use Rattle.dump_records.proofs.FedLemmas.{between}
use Rattle.dump_records.proofs.form.DumpForm.begin.Goals as goal

pub returns-clause-fed : goal.returns-clause-fed
returns-clause-fed c = λ at h rs stands size.
    let piece = c.args.piece.now in
    let kept : c.append.new.kept.items ≡ piece = c.append.ensures.items ∙ ap (λ l. l ++ piece) c.clear.ensures.items in
    subst (λ l. InRecord l (h ++ piece) rs) (sym kept)
    (record_begins h piece rs (between c.args.self.now h rs c.requires.mode stands)
    (AreBytes-from piece (λ i. (c.type_inv.piece i).fits)))
