use Rattle.std.proofs.Common.{◌≡◌, ◌+◌, ◌++◌, true, length, take, sym, ◌∙◌, subst, length-take-le, arith}
use Rattle.job_loop.specs.Shown.{Shown}
use Rattle.job_loop.specs.Forms.{HasFed}
use Rattle.opus_packet.proofs.BytesLemmas.{AreBytes-from, AreBytes-take}
use Rattle.opus_feed.specs.declared.framing.Framing.TheVariants.{SelfDelimited}
use Rattle.pack_records.specs.declared.self_form.Mode.TheVariants.{Fresh}
use Rattle.pack_records.specs.declared.item.Item.{Item}
use Rattle.pack_records.specs.Framed.{SelfStands}
use Rattle.pack_records.specs.Holds.{HoldsPacket}
use Rattle.pack_records.specs.Pieces.{shown_by}
use Rattle.pack_records.proofs.FramedLemmas.{fresh_fed, within_fed, self_over}
use Rattle.pack_records.proofs.self_form.SelfFormForm.feed.Goals as goal

pub returns-in-Some-clause-fed : goal.returns-in-Some-clause-fed
returns-in-Some-clause-fed c = λ h rs stands size.
    let s = c.args.self.now in
    let q = c.here_first.new.self in
    let piece = c.args.piece.now in
    let count = c.in-Some.count in
    let own = take count piece in
    let e = c.in-Some.ensures in
    let taken : length own ≡ count = length-take-le count piece e.count.1 in
    let are = AreBytes-take count piece (AreBytes-from piece (λ i. (c.type_inv.piece i).fits)) in
    subst (λ m. HasFed (SelfStands m q s.start) (λ (r : Shown Item). r.item.place) (shown_by q own) true h rs own
    (c.args.at + count)) (sym c.in-Fresh.is)
    (fresh_fed Fresh true s.pieces q s.start s.start c.args.at h own rs (c.args.at + count)
    (e.same.framing ∙ s.framing_is) e.same.padding (subst (λ m. SelfStands m s.pieces s.start h rs) c.in-Fresh.is stands)
    size (omega (arith, taken, e.count.0)) are (omega (arith, taken))
    (subst (λ d. HoldsPacket d SelfDelimited c.args.at 0 own (shown_by q own)) (sym e.same.padding) e.packet))

pub returns-in-None-clause-fed : goal.returns-in-None-clause-fed
returns-in-None-clause-fed c = λ h rs stands size.
    let s = c.args.self.now in
    let new = c.begin.new.self in
    let piece = c.args.piece.now in
    let e = c.begin.ensures in
    let count = c.begin.result.count in
    let own = take count piece in
    let taken : length own ≡ count = length-take-le count piece e.most in
    let are = AreBytes-take count piece (AreBytes-from piece (λ i. (c.type_inv.piece i).fits)) in
    fresh_fed new.mode c.begin.result.whole s.pieces new.pieces s.start new.start c.args.at h own rs (c.args.at + count)
    new.framing_is (e.padding ∙ c.here_first.ensures.same.padding)
    (subst (λ m. SelfStands m s.pieces s.start h rs) c.in-Fresh.is stands) size (omega (arith, taken, e.some)) are
    (omega (arith, taken)) e.read

pub returns-in-Within-clause-fed : goal.returns-in-Within-clause-fed
returns-in-Within-clause-fed c = λ h rs stands size.
    let s = c.args.self.now in
    let new = c.go_on.new.self in
    let piece = c.args.piece.now in
    let e = c.go_on.ensures in
    let count = c.go_on.result.count in
    let own = take count piece in
    let taken : length own ≡ count = length-take-le count piece e.most in
    let are = AreBytes-take count piece (AreBytes-from piece (λ i. (c.type_inv.piece i).fits)) in
    within_fed new.mode c.go_on.result.whole s.pieces new.pieces s.start new.start c.args.at h own rs
    (c.args.at + count) s.framing_is new.framing_is e.padding
    (subst (λ m. SelfStands m s.pieces s.start h rs) c.in-Within.is stands) size (omega (arith, taken, e.some)) are
    (omega (arith, taken)) e.read

pub returns-in-Over-clause-fed : goal.returns-in-Over-clause-fed
returns-in-Over-clause-fed c = λ h rs stands size.
    let s = c.args.self.now in
    let piece = c.args.piece.now in
    let own = take (length piece) piece in
    let are = AreBytes-take (length piece) piece (AreBytes-from piece (λ i. (c.type_inv.piece i).fits)) in
    subst (λ m. SelfStands m s.pieces s.start (h ++ own) rs) (sym c.in-Over.is)
    (self_over s.pieces s.start h own rs (subst (λ m. SelfStands m s.pieces s.start h rs) c.in-Over.is stands) are)
