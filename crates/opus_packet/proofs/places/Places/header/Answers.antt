use Rattle.std.proofs.Common.{sym, subst, refl, arith}
use Rattle.opus_packet.proofs.PlacesLemmas.{AreMade, made-equal, made-given, header-stands, given-small}
use Rattle.opus_packet.proofs.places.Places.header.Goals as goal
use Rattle.opus_packet.proofs.places.Places.header.Goals.{in-Equal, in-Spelled}

pub overflow_cast-sizes : goal.overflow_cast-sizes
overflow_cast-sizes c =
    omega (arith, c.from-in-Spelled.ensures, given-small c.args.self.now c.args.bytes.now c.args.body c.in-Spelled.width c.requires.fits c.in-Spelled.is c.requires.body)

made : (c : goal.After-row_known-2-1) → AreMade c.args.self.now c.args.bytes.now c.args.body c.match-self.sizes
made c =
    let p = c.args.self.now in
    let bytes = c.args.bytes.now in
    elim c.match-self.branch [
      | in-Equal w ↦ subst (λ z. AreMade p bytes c.args.body z) (sym w.sizes-is) (made-equal p bytes c.args.body c.requires.fits w.in-Equal.is)
      | in-Spelled w ↦ subst (λ z. AreMade p bytes c.args.body z) (sym w.sizes-is) (made-given p bytes c.args.body w.in-Spelled.width _ c.requires.fits w.in-Spelled.is c.requires.body (rw w.from.ensures refl) refl (rw w.from-in-Spelled.ensures refl))
    ]

pub returns-clause-stands : goal.returns-clause-stands
returns-clause-stands c =
    header-stands c.args.self.now c.args.bytes.now c.args.body _ c.requires.fits refl refl refl refl (made c)

pub returns-clause-value : goal.returns-clause-value
returns-clause-value c =
    rw (made c).value refl
