use Rattle.std.proofs.Common.{sym, ap}
use Rattle.rec_store.specs.declared.stop.StoreFault.TheVariants.{StoreCut}
use Rattle.dump_records.specs.Settled.{dump_settled}
use Rattle.dump_records.proofs.EndLemmas.{cut_within, no_cut}
use Rattle.dump_records.proofs.form.DumpFormForm.end.Goals as goal

pub returns-then-is_within-clause-ends : goal.returns-then-is_within-clause-ends
returns-then-is_within-clause-ends c = λ h rs stands size own.
    let s = c.args.self.now in
    (dump_settled s h rs stands, (cut_within s h rs (sym c.if-is_within.ensures) stands, sym (ap StoreCut size)))

pub returns-else-is_within-clause-ends : goal.returns-else-is_within-clause-ends
returns-else-is_within-clause-ends c = λ h rs stands size own.
    let s = c.args.self.now in
    (dump_settled s h rs stands, no_cut s h rs (sym c.if-is_within.ensures) stands)
