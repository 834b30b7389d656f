use Rattle.std.proofs.Common.{ap, ◌∙◌, arith, ◌+◌, length}
use Rattle.opus_packet.specs.declared.header.Sizes.TheVariants.{Given}
use Rattle.opus_packet.specs.Header.{count_and_padding}
use Rattle.opus_packet.specs.HeaderRead.{with_lengths}
use Rattle.opus_packet.proofs.Made.{stands-made}
use Rattle.opus_packet.proofs.header.read_given.Goals as goal

pub returns-in-Some : goal.returns-in-Some
returns-in-Some c =
    let a = c.args in
    let r = c.requires in
    let s = c.in-Some.spelled in
    let lengths = c.in-Some.ensures in
    let given = lengths.given in
    let counted = given.spells.counted ∙ lengths.counted in
    let same = ap (λ count. length (count_and_padding a.shape (count + 1))) counted in
    stands-made a.first a.shape (Given s) _ c.make.result _ _ c.make.ensures
    (ap (λ read. with_lengths a.first a.shape read) lengths.read)
    (omega (arith, r.before, same, ap length given.spells.own))
    (omega (arith, lengths.within)) (omega (arith, given.short, lengths.counted, r.most, r.small)) r.code
    given
    (rw counted r.lasts)
