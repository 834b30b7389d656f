use Rattle.std.proofs.Common.{arith}
use Rattle.opus_flen.specs.declared.frame_length.LenRead.TheVariants.{Len}
use Rattle.opus_packet.specs.HeaderStands.{header_value}
use Rattle.opus_packet.proofs.ReadBody.{AreBytes-from}
use Rattle.opus_self.proofs.ReadSelf.{reads_last, not_whole}
use Rattle.opus_self.proofs.SelfPlacesLemmas.{self-fits-from}
use Rattle.opus_self.proofs.places.read_body.Goals as goal

pub returns-then-size-bytes-clause-none : goal.returns-then-size-bytes-clause-none
returns-then-size-bytes-clause-none c v s used begins =
    let r = c.requires.stands in
    let h = header_value c.args.header in
    let bytes = c.args.bytes.now in
    let read = reads_last h bytes c.args.header.used (Len c.args.last c.args.width) r.said_is r.used_is c.requires.read in
    not_whole h c.args.last bytes v s used read
    (omega (arith, r.used_is, r.tail_is, c.requires.width, c.body_size.ensures.size, c.if-size-bytes.true)) begins

pub returns-clause-fits : goal.returns-clause-fits
returns-clause-fits c =
    let bytes = c.args.bytes.now in
    self-fits-from c.args.header c.args.last c.args.width _ bytes (AreBytes-from bytes (λ i. (c.type_inv.bytes i).fits)) c.requires.frame c.requires.stands
    c.of_header.ensures c.requires.read c.requires.width (omega (arith, c.body_size.ensures.size)) c.if-size-bytes.false
