use Rattle.std.proofs.Common.{arith}
use Rattle.opus_packet.specs.HeaderStands.{header_value}
use Rattle.opus_packet.proofs.BytesLemmas.{AreBytes-from}
use Rattle.opus_packet.proofs.ReadBody.{too_long, not_filled}
use Rattle.opus_packet.proofs.PlacesLemmas.{fits-from}
use Rattle.opus_packet.proofs.places.read_body.Goals as goal

pub returns-then-rest-most-clause-none : goal.returns-then-rest-most-clause-none
returns-then-rest-most-clause-none c v s spelled =
    let r = c.requires in
    too_long (header_value c.args.header) c.args.bytes.now v s r.said_is
    (omega (arith, r.used_is, r.tail_is, c.body_size.ensures.size, c.if-rest-most.true)) spelled

pub returns-in-Some-clause-fits : goal.returns-in-Some-clause-fits
returns-in-Some-clause-fits c =
    let r = c.requires in
    let bytes = c.args.bytes.now in
    let fills = c.in-Some.ensures in
    fits-from c.args.header c.in-Some.last c.of_header.result bytes (AreBytes-from bytes (λ i. (c.type_inv.bytes i).fits)) fills.0 r c.of_header.ensures
    (omega (arith, fills.1, r.within))

pub returns-in-None-clause-none : goal.returns-in-None-clause-none
returns-in-None-clause-none c v s spelled =
    let r = c.requires in
    let h = c.args.header in
    not_filled (header_value h) c.args.bytes.now v s h.used h.tail r.said_is r.used_is r.tail_is c.in-None.ensures spelled
