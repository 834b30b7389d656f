use Rattle.std.proofs.Common.{◌≡◌, ◌+◌, ◌++◌, length, take, sym, subst, length-take-le, arith}
use Rattle.opus_packet.proofs.BytesLemmas.{AreBytes-from, AreBytes-take}
use Rattle.pack_records.specs.OnePayload.{RawStands}
use Rattle.pack_records.proofs.OnePayloadLemmas.{one_more, one_decided, one_over}
use Rattle.pack_records.proofs.raw.RawAnyForm.feed.Goals as goal

pub returns-then-self-clause-fed : goal.returns-then-self-clause-fed
returns-then-self-clause-fed g c = λ h rs stands size.
    let m = g.P.PayloadReader.reads in
    let p = c.args.self.now.payload in
    let piece = c.args.piece.now in
    let own = take (length piece) piece in
    subst (λ o. RawStands m o p (h ++ own) rs) (sym c.if-self.true)
    (one_over m g.met.P.PayloadReader.lawful p h own rs (subst (λ o. RawStands m o p h rs) c.if-self.true stands)
    (AreBytes-take (length piece) piece (AreBytes-from piece (λ i. (c.type_inv.piece i).fits))))

pub returns-in-None-clause-fed : goal.returns-in-None-clause-fed
returns-in-None-clause-fed g c = λ h rs stands size.
    let m = g.P.PayloadReader.reads in
    let p = c.args.self.now.payload in
    let q = c.take.new.self in
    let piece = c.args.piece.now in
    let s = subst (λ o. RawStands m o p h rs) c.if-self.false stands in
    subst (λ o. RawStands m o q (h ++ take (length piece) piece) rs) (sym c.if-self.false)
    (one_more m p q h piece rs s (AreBytes-from piece (λ i. (c.type_inv.piece i).fits))
    (c.in-None.ensures.taken h s.at.0 (omega (arith, size))))

pub returns-in-Some-clause-fed : goal.returns-in-Some-clause-fed
returns-in-Some-clause-fed g c = λ h rs stands size.
    let m = g.P.PayloadReader.reads in
    let p = c.args.self.now.payload in
    let q = c.take.new.self in
    let piece = c.args.piece.now in
    let count = c.in-Some.count in
    let own = take count piece in
    let s = subst (λ o. RawStands m o p h rs) c.if-self.false stands in
    let taken : length own ≡ count = length-take-le count piece c.in-Some.ensures.count.1 in
    one_decided m p q h own rs (c.args.at + count) s
    (AreBytes-take count piece (AreBytes-from piece (λ i. (c.type_inv.piece i).fits)))
    (c.in-Some.ensures.taken h s.at.0 (omega (arith, size))) (omega (arith, size, taken))
