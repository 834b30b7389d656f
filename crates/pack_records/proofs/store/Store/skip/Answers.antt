use Rattle.std.proofs.Common.{◌≡◌, length, take, sym, subst, length-take-le, arith}
use Rattle.opus_packet.proofs.BytesLemmas.{AreBytes-from, AreBytes-take}
use Rattle.pack_records.specs.declared.store.Mode.TheVariants.{Skip}
use Rattle.pack_records.specs.StoreStands.{IsPassed}
use Rattle.pack_records.proofs.StoreSteps.{skip_fed}
use Rattle.pack_records.proofs.store.Store.skip.Goals as goal

pub returns-clause-fed : goal.returns-clause-fed
returns-clause-fed g c = λ at h rs stands size.
    let s = c.args.self.now in
    let new = c.pass.new.self in
    let piece = c.args.piece.now in
    let count = c.min-count.result in
    let own = take count piece in
    let taken : length own ≡ count = length-take-le count piece (omega (arith, c.min-count.ensures)) in
    skip_fed g.P.PayloadReader.reads g.met.P.PayloadReader.lawful s new own h rs c.requires.mode
    (AreBytes-take count piece (AreBytes-from piece (λ i. (c.type_inv.piece i).fits)))
    (subst (λ n. IsPassed s new n Skip) (sym taken) c.pass.ensures.passed) c.pass.ensures.payload stands
