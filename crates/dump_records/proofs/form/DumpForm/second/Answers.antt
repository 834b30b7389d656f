use Rattle.std.proofs.Common.{◌≡◌, inr, ◌+◌, ◌++◌, length, take, sym, ap, ◌∙◌, subst, arith, rules}
use Rattle.std.specs.Int.{w16, to_be_bytes}
use Rattle.opus_io.proofs.BytesLemmas.{AreBytes-from, AreBytes-take}
use Rattle.dump_records.specs.DumpForm.{InRecord}
use Rattle.dump_records.proofs.StandLemmas.{record_more, bad_stands}
use Rattle.dump_records.proofs.FedLemmas.{behind_first}
use Rattle.dump_records.proofs.form.DumpForm.second.Goals as goal

pub returns-then-length-lt8-clause-took : goal.returns-then-length-lt8-clause-took
returns-then-length-lt8-clause-took c = record {
  some = search rules;
  most = search rules;
  fed = λ h rs stands size.
      let s = c.args.self.now in
      let came = s.kept.items in
      let own = take 1 c.args.piece.now in
      let before = behind_first s h rs c.requires.mode stands in
      let one : length came ≡ 1 = s.first c.requires.mode in
      let spelled : came ++ own ≡ to_be_bytes w16 c.dump_record_length.result =
      sym c.append.ensures.items ∙ sym c.as_slice.ensures.value ∙ sym c.dump_record_length.ensures in
      let place : c.args.at + 1 ≡ s.start + 2 = omega (arith, size, before.1) in (
        inr (bad_stands h own rs came c.bad-self.result s.start c.dump_record_length.result (c.args.at + 1) before.0.before
            (omega (arith, one, before.1)) (omega (arith, c.if-length-lt8.true, c.from-length.ensures)) spelled place
            c.bad-self.ensures),
        ap (λ i. i.place) c.bad-self.ensures,
      );
  ready = search rules;
}

pub returns-clause-took : goal.returns-clause-took
returns-clause-took c = record {
  some = search rules;
  most = search rules;
  fed = λ h rs stands size.
      let s = c.args.self.now in
      let piece = c.args.piece.now in
      subst (λ l. InRecord l (h ++ take 1 piece) rs) (sym c.append.ensures.items)
      (record_more s.kept.items h (take 1 piece) rs (behind_first s h rs c.requires.mode stands).0
      (AreBytes-take 1 piece (AreBytes-from piece (λ i. (c.type_inv.piece i).fits))));
  ready = search rules;
}
