use Rattle.std.proofs.Common.{◌≡◌, ◌+◌, ◌≤◌, ◌++◌, length, take, refl, sym, ap, ◌∙◌, subst, length-take-le, take-take, arith, rules}
use Rattle.job_loop.specs.Forms.{HasFed}
use Rattle.opus_packet.proofs.BytesLemmas.{AreBytes-from, AreBytes-take}
use Rattle.pack_records.specs.Payloads.{IsDecided}
use Rattle.pack_records.specs.StoreStands.{StoreStands}
use Rattle.pack_records.proofs.StorePayloads.{fed_whole, more_fed, end_fed, bad_fed}
use Rattle.pack_records.proofs.store.Store.more_payload.Goals as goal

pub returns-then-whole : goal.returns-then-whole
returns-then-whole g c = record {
  took = record {
    some = search rules;
    most = search rules;
    same = search rules;
    fed = λ h rs stands size.
        let m = g.P.PayloadReader.reads in
        let s = c.args.self.now in
        let mid = c.take.new.self in
        let passed = c.pass-whole.new.self in
        let piece = c.args.piece.now in
        let most = c.min-most.result in
        let own = take most piece in
        let taken : length own ≡ most = length-take-le most piece (omega (arith, c.min-most.ensures)) in
        let over = c.if-whole.ensures.over refl in
        let some : 1 ≤ length own = omega (arith, taken, c.min-most.ensures, c.requires.some, s.some) in
        let sum : length h + length own ≡ c.args.at + most = omega (arith, size, taken) in
        let fed = c.in-None.ensures.taken in
        fed_whole m _ own h rs (c.args.at + most) c.pass-whole.result c.if-whole.true sum
        (end_fed m g.met.P.PayloadReader.lawful s _ mid passed.payload own h rs passed.start passed.range c.requires.mode
        (AreBytes-take most piece (AreBytes-from piece (λ i. (c.type_inv.piece i).fits))) some
        (sym over.all ∙ sym taken) over.mode over.head c.take.ensures.same c.pass-whole.ensures.payload c.end.ensures.same
        over.start over.range (λ part p at. fed part p (at ∙ size))
        (λ all p at last. c.end.ensures.holds all p (at ∙ sum) last) stands);
    ready = search rules;
  };
}

pub returns-else-whole : goal.returns-else-whole
returns-else-whole g c = record {
  took = record {
    some = search rules;
    most = search rules;
    same = search rules;
    fed = λ h rs stands size.
        let m = g.P.PayloadReader.reads in
        let s = c.args.self.now in
        let new = c.pass-whole.new.self in
        let piece = c.args.piece.now in
        let most = c.min-most.result in
        let own = take most piece in
        let taken : length own ≡ most = length-take-le most piece (omega (arith, c.min-most.ensures)) in
        let left = c.if-whole.ensures.left refl in
        let mid = c.take.new.self in
        let payload : new.payload ≡ mid = c.pass-whole.ensures.payload in
        let fed = c.in-None.ensures.taken in
        let same : m.layout new.payload ≡ m.layout s.payload = ap m.layout payload ∙ c.take.ensures.same in
        subst (λ b. HasFed (StoreStands m new) m.place (m.current new.payload own) b h rs own (c.args.at + most))
        (sym c.if-whole.false)
        (more_fed m g.met.P.PayloadReader.lawful s new own h rs c.requires.mode
        (AreBytes-take most piece (AreBytes-from piece (λ i. (c.type_inv.piece i).fits)))
        (left.left ∙ ap (λ n. n + new.left) (sym taken)) left.mode_is left.head left.start left.range same
        (λ part p at. subst (λ q. m.stands q s.start (part ++ own)) (sym payload) (fed part p (at ∙ size))) stands);
    ready = search rules;
  };
}

pub returns-in-Some : goal.returns-in-Some
returns-in-Some g c = record {
  took = record {
    some = search rules;
    most = search rules;
    same = search rules;
    fed = λ h rs stands size.
        let m = g.P.PayloadReader.reads in
        let s = c.args.self.now in
        let mid = c.take.new.self in
        let new = c.pass.new.self in
        let piece = c.args.piece.now in
        let most = c.min-most.result in
        let count = c.in-Some.count in
        let own = take count piece in
        let within = c.in-Some.ensures.count in
        let shown : length (take most piece) ≡ most = length-take-le most piece (omega (arith, c.min-most.ensures)) in
        let taken : length own ≡ count = length-take-le count piece (omega (arith, within.1, shown, c.min-most.ensures)) in
        let parts : take count (take most piece) ≡ own = take-take count most piece (omega (arith, within.1, shown)) in
        let payload : new.payload ≡ mid = c.pass.ensures.payload in
        let fed = c.in-Some.ensures.taken in
        let sum : length h + length own ≡ c.args.at + count = omega (arith, size, taken) in
        fed_whole m new own h rs (c.args.at + count) _ refl sum
        (bad_fed m g.met.P.PayloadReader.lawful s _ new count own h rs c.requires.mode
        (AreBytes-take count piece (AreBytes-from piece (λ i. (c.type_inv.piece i).fits))) within.0 taken
        c.pass.ensures.passed refl refl refl refl (ap m.layout payload ∙ c.take.ensures.same)
        (λ part p at. subst (λ q. IsDecided m q s.start s.range (part ++ own)) (sym payload)
        (subst (λ l. IsDecided m mid s.start s.range (part ++ l)) parts (fed part p (at ∙ size)))) stands);
    ready = search rules;
  };
}
