use Rattle.std.proofs.Common.{sym, ◌∙◌, true≢false, arith}
use Rattle.pack_records.proofs.OnePayloadLemmas.{one_end}
use Rattle.pack_records.proofs.raw.RawAnyForm.end.Goals as goal

pub returns-then-whole-clause-ends : goal.returns-then-whole-clause-ends
returns-then-whole-clause-ends g c = λ h rs stands size own.
    let m = g.P.PayloadReader.reads in
    let s = c.args.self.now in
    one_end m g.met.P.PayloadReader.lawful s.over s.payload h rs (m.current c.end.new.self own) stands
    (λ is reads. c.end.ensures.holds h reads (omega (arith, size)) own)

pub returns-else-whole-clause-ends : goal.returns-else-whole-clause-ends
returns-else-whole-clause-ends g c = λ h rs stands size own.
    let m = g.P.PayloadReader.reads in
    let s = c.args.self.now in
    one_end m g.met.P.PayloadReader.lawful s.over s.payload h rs (m.current s.payload own) stands
    (λ is reads. absurd (true≢false (sym c.if-whole.false ∙ is)))
