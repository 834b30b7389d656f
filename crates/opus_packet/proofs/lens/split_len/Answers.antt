use Rattle.std.proofs.Common.{suc, sym, ◌≡◌, ◌∙◌, arith}
use Rattle.std.proofs.lemmas.List.{take_rest}
use Rattle.opus_packet.proofs.LensLemmas.{splits}
use Rattle.opus_packet.proofs.lens.split_len.Goals as goal

pub returns-in-Len : goal.returns-in-Len
returns-in-Len c =
    let one_more : c.args.count ≡ suc c.args.left = c.requires.count ∙ omega arith in
    rw (one_more, take_rest c.args.bytes.now c.in-Len.used)
    (splits c.args.left c.args.bytes.now c.in-Len.value c.in-Len.used (rw one_more at c.requires.spells) (sym c.in-Len.ensures.exact))
