use Rattle.std.proofs.Common.{◌≡◌, ◌+◌, ◌++◌, length, length-append, sym, ap, ◌∙◌, subst, arith}
use Rattle.opus_io.proofs.BytesLemmas.{AreBytes-from}
use Rattle.dump_records.specs.DumpForm.{InRecord}
use Rattle.dump_records.proofs.StandLemmas.{record_begins}
use Rattle.dump_records.proofs.FedLemmas.{between}
use Rattle.dump_records.proofs.form.DumpForm.first.Goals as goal

pub returns-clause-fed : goal.returns-clause-fed
returns-clause-fed c = λ h rs stands size.
    let piece = c.args.piece.now in
    let kept : c.append.new.kept.items ≡ piece = c.append.ensures.items ∙ ap (λ l. l ++ piece) c.clear.ensures.items in
    let place : c.args.at + 1 ≡ length (h ++ piece) = omega (arith, size, c.requires.one, length-append h piece) in (
      subst (λ l. InRecord l (h ++ piece) rs) (sym kept)
          (record_begins h piece rs (between c.args.self.now h rs c.requires.mode stands)
          (AreBytes-from piece (λ i. (c.type_inv.piece i).fits))),
      place,
    )
