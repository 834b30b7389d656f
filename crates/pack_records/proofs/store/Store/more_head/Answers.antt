use Rattle.std.proofs.Common.{◌≡◌, ◌+◌, ◌<◌, ◌^◌, [], ◌++◌, length, take, refl, sym, ap, ◌∙◌, subst, length-take-le, arith, rules}
use Rattle.job_loop.specs.Forms.{HasFed}
use Rattle.opus_packet.proofs.BytesLemmas.{AreBytes-from, AreBytes-take}
use Rattle.rec_store.specs.DemoStore.{demo_head}
use Rattle.pack_records.specs.StoreStands.{StoreStands}
use Rattle.pack_records.proofs.StoreHeads.{head_part, head_fed}
use Rattle.pack_records.proofs.store.Store.more_head.Goals as goal

pub returns-then-len-lt8 : goal.returns-then-len-lt8
returns-then-len-lt8 g c = record {
  took = record {
    some = search rules;
    most = search rules;
    same = search rules;
    fed = λ h rs stands size.
        let s = c.args.self.now in
        let piece = c.args.piece.now in
        let count = c.min-count.result in
        let items = rw c.unwrap.ensures at c.try_extend_from_slice.ensures.ok in
        head_part g.P.PayloadReader.reads s _ (take count piece) h rs c.requires.mode
        (AreBytes-take count piece (AreBytes-from piece (λ i. (c.type_inv.piece i).fits))) refl refl items stands;
    ready = search rules;
  };
}

pub returns : goal.returns
returns g c = record {
  took = record {
    some = search rules;
    most = search rules;
    same = search rules;
    fed = λ h rs stands size.
        let m = g.P.PayloadReader.reads in
        let s = c.args.self.now in
        let new = c.begin-whole.new.self in
        let head = c.head_of-head.result in
        let piece = c.args.piece.now in
        let count = c.min-count.result in
        let own = take count piece in
        let taken : length own ≡ count = length-take-le count piece (omega (arith, c.min-count.ensures)) in
        let items : c.try_extend_from_slice.new.self.items ≡ s.head.items ++ own =
        rw c.unwrap.ensures at c.try_extend_from_slice.ensures.ok in
        let is : s.head.items ++ own ≡ demo_head head.len head.range =
        sym items ∙ sym c.as_slice.ensures.value ∙ sym c.head_of-head.ensures in
        let len_fits : head.len < 2 ^ 32 = search rules in
        let range_fits : head.range < 2 ^ 32 = search rules in
        let none : new.head.items ≡ [] = ap (λ a. a.items) c.begin-whole.ensures.head ∙ c.clear.ensures in
        subst (λ n. HasFed (StoreStands m new) m.place (m.current new.payload own) c.begin-whole.result h rs own n)
        (omega (arith, size, taken))
        (head_fed m g.met.P.PayloadReader.lawful s new own h rs (c.args.at + count) head.len head.range c.begin-whole.result
        c.requires.mode (AreBytes-take count piece (AreBytes-from piece (λ i. (c.type_inv.piece i).fits))) is len_fits range_fits
        none c.begin-whole.ensures.same (omega (arith, size, taken)) c.begin-whole.ensures.lost c.begin-whole.ensures.open stands);
    ready = search rules;
  };
}
