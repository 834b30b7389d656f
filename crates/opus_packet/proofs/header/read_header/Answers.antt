use Rattle.std.proofs.Common.{◌≡◌, ◌+◌, length, sym, refl, arith}
use Rattle.opus_toc.specs.Toc.{code_of}
use Rattle.opus_packet.specs.declared.header.Sizes.TheVariants.{Equal}
use Rattle.opus_packet.proofs.Made.{stands-made, header_read-code, header_read-none, lasts-plain}
use Rattle.opus_packet.proofs.header.read_header.Goals as goal

pub returns-in_default : goal.returns-in_default
returns-in_default c = header_read-none c.args.bytes.now c.in_default.ensures.cases

pub read_given-requires-clause-lasts : goal.read_given-requires-clause-lasts
read_given-requires-clause-lasts c = lasts-plain c.in-Some.first.now c.type_inv.first.fits

pub returns-in-0 : goal.returns-in-0
returns-in-0 c =
    let first = c.in-Some.first.now in
    let rest = c.in-Some.rest.now in
    let split = c.in-Some.ensures.cases in
    stands-made first c.plain.result (Equal 1) 1 c.make.result _ _ c.make.ensures
    (rw c.plain.ensures (header_read-code c.args.bytes.now first rest 0 split.0 c.in-0.is))
    (rw c.plain.ensures refl) (omega (arith, split.1)) (omega arith)
    (rw c.plain.ensures (sym c.in-0.is)) (omega arith, omega arith)
    (omega (arith, lasts-plain first (omega arith)))

pub returns-in-1 : goal.returns-in-1
returns-in-1 c =
    let first = c.in-Some.first.now in
    let rest = c.in-Some.rest.now in
    let split = c.in-Some.ensures.cases in
    stands-made first c.plain-in-1.result (Equal 2) 1 c.make-in-1.result _ _ c.make-in-1.ensures
    (rw c.plain-in-1.ensures (header_read-code c.args.bytes.now first rest 1 split.0 c.in-1.is))
    (rw c.plain-in-1.ensures refl) (omega (arith, split.1)) (omega arith)
    (rw c.plain-in-1.ensures (sym c.in-1.is)) (omega arith, omega arith)
    (lasts-plain first (omega arith))

pub returns-in-2 : goal.returns-in-2
returns-in-2 c =
    let first = c.in-Some.first.now in
    let rest = c.in-Some.rest.now in
    let split = c.in-Some.ensures.cases in
    let said = header_read-code c.args.bytes.now first rest 2 split.0 c.in-2.is in
    let size : 1 + length rest ≡ length c.args.bytes.now = omega (arith, split.1) in
    rw (said, ← size) (rw c.plain-in-2.ensures at c.read_given.ensures)

pub returns-in_default-2 : goal.returns-in_default-2
returns-in_default-2 c =
    let first = c.in-Some.first.now in
    let rest = c.in-Some.rest.now in
    let split = c.in-Some.ensures.cases in
    let code : code_of first ≡ 3 = omega arith in
    let said = header_read-code c.args.bytes.now first rest 3 split.0 code in
    let size : 1 + length rest ≡ length c.args.bytes.now = omega (arith, split.1) in
    rw (said, ← size) c.read_count.ensures
