use Rattle.std.proofs.Common.{rules}
use Rattle.dump_records.proofs.StandLemmas.{head_begins}
use Rattle.dump_records.proofs.FedLemmas.{in_line}
use Rattle.dump_records.proofs.form.DumpForm.more_line.Goals as goal

pub returns-in-Whole : goal.returns-in-Whole
returns-in-Whole c = record {
  took = record {
    some = search rules;
    most = search rules;
    fed = λ h rs stands size.
        let before = in_line c.args.self.now h rs c.requires.mode stands in
        (head_begins _ (c.in-Whole.ensures.is h before.0 before.1), before.2);
    ready = search rules;
  };
}
