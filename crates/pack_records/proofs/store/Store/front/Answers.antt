use Rattle.std.proofs.Common.{◌≡◌, ◌+◌, ◌<◌, ◌^◌, [], ◌++◌, length, take, refl, sym, ap, ◌∙◌, subst, length-take-le, take-take, arith, rules}
use Rattle.job_loop.specs.Forms.{HasFed}
use Rattle.opus_packet.proofs.BytesLemmas.{AreBytes-from, AreBytes-take}
use Rattle.rec_store.specs.DemoStore.{demo_head}
use Rattle.pack_records.specs.StoreStands.{StoreStands}
use Rattle.pack_records.proofs.StoreHeads.{here_fed, head_fed}
use Rattle.pack_records.proofs.store.Store.front.Goals as goal

pub returns-then-lies : goal.returns-then-lies
returns-then-lies g c = record {
  took = record {
    some = search rules;
    most = search rules;
    same = search rules;
    fed = λ h rs stands size.
        let m = g.P.PayloadReader.reads in
        let s = c.args.self.now in
        let new = c.lies.new.self in
        let head = c.head_of-head.result in
        let piece = c.args.piece.now in
        let count = 8 + head.len in
        let own = take count piece in
        let lies = c.if-lies.ensures in
        let taken : length own ≡ count = length-take-le count piece (lies.most refl) in
        let front : demo_head head.len head.range ≡ take 8 own =
        c.head_of-head.ensures ∙ sym (take-take 8 count piece (omega arith)) in
        let len_fits : head.len < 2 ^ 32 = search rules in
        let range_fits : head.range < 2 ^ 32 = search rules in
        let fed = here_fed m g.met.P.PayloadReader.lawful s new own h rs (c.args.at + 8) head.len head.range c.requires.mode
        c.requires.none (AreBytes-take count piece (AreBytes-from piece (λ i. (c.type_inv.piece i).fits))) c.lies.ensures.mode
        c.lies.ensures.kept c.lies.ensures.same front taken (lies.some refl) len_fits range_fits (omega (arith, size))
        (lies.here refl) stands in
        (fed.0, fed.1 ∙ omega (arith, size, taken));
    ready = search rules;
  };
}

pub returns : goal.returns
returns g c = record {
  took = record {
    some = search rules;
    most = search rules;
    same = search rules;
    fed = λ h rs stands size.
        let m = g.P.PayloadReader.reads in
        let s = c.args.self.now in
        let new = c.begin-whole.new.self in
        let head = c.head_of-head.result in
        let piece = c.args.piece.now in
        let own = take 8 piece in
        let taken : length own ≡ 8 = length-take-le 8 piece c.requires.head in
        let is : s.head.items ++ own ≡ demo_head head.len head.range =
        ap (λ l. l ++ own) c.requires.none ∙ sym c.head_of-head.ensures in
        let len_fits : head.len < 2 ^ 32 = search rules in
        let range_fits : head.range < 2 ^ 32 = search rules in
        let none : new.head.items ≡ [] =
        ap (λ a. a.items) (c.begin-whole.ensures.head ∙ c.lies.ensures.kept) ∙ c.requires.none in
        subst (λ n. HasFed (StoreStands m new) m.place (m.current new.payload own) c.begin-whole.result h rs own n)
        (omega (arith, size, taken))
        (head_fed m g.met.P.PayloadReader.lawful s new own h rs (c.args.at + 8) head.len head.range c.begin-whole.result
        c.requires.mode (AreBytes-take 8 piece (AreBytes-from piece (λ i. (c.type_inv.piece i).fits))) is len_fits range_fits
        none (c.begin-whole.ensures.same ∙ c.lies.ensures.same) (omega (arith, size, taken)) c.begin-whole.ensures.lost
        c.begin-whole.ensures.open stands);
    ready = search rules;
  };
}
