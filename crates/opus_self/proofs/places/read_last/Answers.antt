use Rattle.std.proofs.Common.{sym}
use Rattle.std.proofs.lemmas.List.{take_rest}
use Rattle.opus_flen.specs.declared.frame_length.LenRead.TheVariants.{Cut}
use Rattle.opus_packet.specs.HeaderStands.{header_value}
use Rattle.opus_packet.specs.SelfPrefix.{unsized}
use Rattle.opus_self.proofs.ReadSelf.{reads_last, not_sized, sized≢unsized}
use Rattle.opus_self.proofs.places.read_last.Goals as goal

pub returns-in-Cut-clause-none : goal.returns-in-Cut-clause-none
returns-in-Cut-clause-none c v s used begins =
    let r = c.requires in
    let h = c.args.header in
    let cut = rw (take_rest c.args.bytes.now h.used) at c.in-Cut.ensures.exact in
    not_sized c.args.bytes.now v s used unsized
    (reads_last (header_value h) c.args.bytes.now h.used Cut r.said_is r.used_is (sym cut)) sized≢unsized begins
