use Rattle.std.proofs.Common.{arith, refl, ◌%◌, ◌≤◌}
use Rattle.opus_toc.specs.Toc.{config_of}
use Rattle.opus_packet.specs.declared.header.Sizes.TheVariants.{Equal}
use Rattle.opus_packet.proofs.HeaderLemmas.{counts, frames-most}
use Rattle.opus_packet.proofs.Made.{stands-made}
use Rattle.opus_packet.proofs.header.read_sizes.Goals as goal

pub read_given-requires-clause-most : goal.read_given-requires-clause-most
read_given-requires-clause-most c =
    let a = c.args in
    let count = counts a.first a.count c.requires.count in
    omega (arith, frames-most (config_of a.first) (a.count % 64) (omega (arith, c.ranges.first)) count.1)

pub returns-else-shape : goal.returns-else-shape
returns-else-shape c =
    let a = c.args in
    let r = c.requires in
    let count = counts a.first a.count r.count in
    let most : a.count % 64 ≤ 48 = frames-most (config_of a.first) (a.count % 64) (omega (arith, c.ranges.first)) count.1 in
    stands-made a.first _ (Equal (a.count % 64)) a.before c.make.result _ _ c.make.ensures
    (rw c.if-shape.false refl)
    (omega (arith, r.before))
    (omega arith) (omega (arith, r.small)) (omega (arith, r.code))
    (count.0, most)
    count.1
