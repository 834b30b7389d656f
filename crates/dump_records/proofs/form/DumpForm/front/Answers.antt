use Rattle.std.proofs.Common.{◌≡◌, inr, ◌+◌, [], length, length-take-le, take, sym, ap, arith, rules}
use Rattle.dump_records.proofs.StandLemmas.{record_stands, bad_stands}
use Rattle.dump_records.proofs.FedLemmas.{between}
use Rattle.dump_records.proofs.form.DumpForm.front.Goals as goal

pub returns-then-length-lt8 : goal.returns-then-length-lt8
returns-then-length-lt8 c = record {
  took = record {
    some = search rules;
    most = search rules;
    fed = λ h rs stands size.
        let at = c.args.at in (
          inr (bad_stands h (take 2 c.args.piece.now) rs [] c.bad-self.result at c.dump_record_length.result (at + 2)
              (between c.args.self.now h rs c.requires.mode stands) (omega (arith, size))
              (omega (arith, c.if-length-lt8.true, c.from-length.ensures)) (sym c.dump_record_length.ensures)
              (omega arith) c.bad-self.ensures),
          ap (λ i. i.place) c.bad-self.ensures,
        );
    ready = search rules;
  };
}

pub returns : goal.returns
returns c = record {
  took = record {
    some = search rules;
    most = search rules;
    fed = λ h rs stands size.
        let at = c.args.at in
        let piece = c.args.piece.now in
        let n = c.from-length.result in
        let own = take n piece in
        let told = c.read_dump_record-told.result in
        let taken : length own ≡ n = length-take-le n piece c.if-length-piece.false in (
          rw c.from-self.ensures
              (record_stands h own rs [] c.record_at-self.result told.item told.size (at + n)
              (between c.args.self.now h rs c.requires.mode stands) c.read_dump_record-told.ensures.told
              (omega (arith, size, taken)) c.record_at-self.ensures),
          ap (λ i. i.place) c.record_at-self.ensures,
        );
    ready = search rules;
  };
}
