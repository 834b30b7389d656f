use Rattle.std.proofs.Common.{◌++◌, length, take}
use Rattle.dump_records.proofs.FedLemmas.{bad_goes, stands_bad}
use Rattle.dump_records.proofs.form.DumpFormForm.feed.Goals as goal

pub returns-in-Bad-clause-fed : goal.returns-in-Bad-clause-fed
returns-in-Bad-clause-fed c = λ h rs stands size.
    let s = c.args.self.now in
    let own = take (length c.args.piece.now) c.args.piece.now in
    stands_bad s (h ++ own) rs c.in-Bad.is (bad_goes s own h rs c.in-Bad.is stands)
