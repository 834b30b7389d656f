use Rattle.std.proofs.Common.{◌≡◌, ◌+◌, ◌++◌, length, length-take-le, take, sym, ap, ◌∙◌, subst, arith, rules}
use Rattle.opus_io.proofs.BytesLemmas.{AreBytes-from, AreBytes-take}
use Rattle.rec_store.specs.DumpItem.{TellsRecord}
use Rattle.dump_records.specs.DumpForm.{InRecord}
use Rattle.dump_records.proofs.StandLemmas.{record_more, record_stands}
use Rattle.dump_records.proofs.FedLemmas.{within, stands_part}
use Rattle.dump_records.proofs.form.DumpForm.more.Goals as goal

pub returns-then-len-self : goal.returns-then-len-self
returns-then-len-self c = record {
  took = record {
    some = search rules;
    most = search rules;
    fed = λ h rs stands size.
        let s = c.args.self.now in
        let piece = c.args.piece.now in
        let own = take c.min-count.result piece in
        stands_part _ (h ++ own) rs c.requires.mode
        (subst (λ l. InRecord l (h ++ own) rs) (sym c.append.ensures.items)
        (record_more s.kept.items h own rs (within s h rs c.requires.mode stands)
        (AreBytes-take c.min-count.result piece (AreBytes-from piece (λ i. (c.type_inv.piece i).fits)))));
    ready = search rules;
  };
}

pub returns : goal.returns
returns c = record {
  took = record {
    some = search rules;
    most = search rules;
    fed = λ h rs stands size.
        let s = c.args.self.now in
        let piece = c.args.piece.now in
        let count = c.min-count.result in
        let own = take count piece in
        let told = c.read_dump_record-told.result in
        let taken : length own ≡ count = length-take-le count piece (omega (arith, c.min-count.ensures)) in
        let tells : TellsRecord (s.kept.items ++ own) told.item told.size =
        subst (λ l. TellsRecord l told.item told.size) (c.as_slice.ensures.value ∙ c.append.ensures.items)
        c.read_dump_record-told.ensures.told in (
          rw (c.from-self.ensures, c.append.ensures.items)
              (record_stands h own rs s.kept.items c.record_at-self.result told.item told.size (c.args.at + count)
              (within s h rs c.requires.mode stands).before tells (omega (arith, size, taken)) c.record_at-self.ensures),
          ap (λ i. i.place) c.record_at-self.ensures,
        );
    ready = search rules;
  };
}
