use Rattle.std.proofs.Common.{◌≡◌, ◌-◌, length, take, drop, refl, sym, ap, ◌∙◌, subst, arith}
use Rattle.std.proofs.lemmas.List.{take_rest}
use Rattle.opus_packet.specs.HasTail.{HasTail}
use Rattle.opus_packet.specs.HeaderStands.{value_at, value_with}
use Rattle.opus_packet.specs.PacketGrammar.{IsPacket}
use Rattle.opus_packet.specs.Places.{header_at}
use Rattle.opus_packet.specs.Tail.{tail_of}
use Rattle.opus_packet.proofs.BytesLemmas.{AreBytes-from}
use Rattle.opus_packet.proofs.GrammarLemmas.{IsPacket-unique}
use Rattle.opus_packet.proofs.PlacesLemmas.{fits-found, fits-size, made-shape, body-there}
use Rattle.opus_packet.proofs.SizeLemmas.{packet-most}
use Rattle.opus_packet.proofs.places.Places.over.Goals as goal

pub overflow_cast-bytes : goal.overflow_cast-bytes
overflow_cast-bytes c = omega (arith, fits-size c.args.self.now c.args.bytes.now c.requires)

has_tail : (c : goal.After-of_header) → HasTail c.of_header.result c.args.bytes.now
has_tail c =
    let p = c.args.self.now in
    let bytes = c.args.bytes.now in
    let value = c.header-header.ensures.value in
    let read = c.of_header.result in
    let body = take (length bytes - p.tail - p.used) (drop p.used bytes) in
    let value_is : read.value ≡ value_at (header_at p bytes) p.last bytes =
    c.of_header.ensures.value ∙ ap (λ g. value_with g p.last body) value
    ∙ ap (λ l. value_with (header_at p bytes) p.last l) (body-there p bytes c.requires) in
    let shape_is : read.shape ≡ p.shape = c.of_header.ensures.shape ∙ made-shape p bytes c.header-header.result value in
    let rest = drop (length bytes - p.tail) bytes in
    let found = fits-found p bytes (length bytes - p.tail) (AreBytes-from bytes (λ i. (c.type_inv.bytes i).fits)) c.requires refl in (
      rest,
      subst (λ v. IsPacket v read.shape rest bytes) (sym value_is) (subst (λ s. IsPacket (value_at (header_at p bytes) p.last bytes) s rest bytes) (sym shape_is) found),
      c.of_header.ensures.tail ∙ ap tail_of (take_rest bytes (length bytes - p.tail)),
    )

pub returns-clause-tail : goal.returns-clause-tail
returns-clause-tail c = has_tail c

pub returns-clause-found : goal.returns-clause-found
returns-clause-found c = ((has_tail c).0, (has_tail c).1)

pub returns-clause-only : goal.returns-clause-only
returns-clause-only c v s spelled =
    let p = c.of_header.result in
    let same = IsPacket-unique p.value v p.shape s _ spelled.0 c.args.bytes.now (has_tail c).1 spelled.1 in
    (same.0, same.1)

pub returns-clause-most : goal.returns-clause-most
returns-clause-most c =
    omega (arith, c.of_header.ensures.size, packet-most c.of_header.result.value c.of_header.result.shape c.args.bytes.now ((has_tail c).0, (has_tail c).1))
