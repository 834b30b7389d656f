use Rattle.std.proofs.Common.{◌≡◌, ◌+◌, ◌-◌, length, take, drop, sym, ap, ◌∙◌, subst, arith}
use Rattle.std.proofs.lemmas.List.{take_rest}
use Rattle.opus_flen.specs.FrameLength.{length_bytes}
use Rattle.opus_packet.specs.HeaderStands.{value_with}
use Rattle.opus_packet.specs.Places.{header_at}
use Rattle.opus_packet.specs.SelfGrammar.{IsSelfDelimited}
use Rattle.opus_packet.specs.Tail.{tail_of}
use Rattle.opus_packet.proofs.ReadBody.{AreBytes-from}
use Rattle.opus_packet.proofs.PlacesLemmas.{made-shape}
use Rattle.opus_self.specs.HasSelfTail.{HasSelfTail}
use Rattle.opus_self.proofs.SelfLemmas.{IsSelfDelimited-unique}
use Rattle.opus_self.proofs.SelfFrontLemmas.{self-most}
use Rattle.opus_self.proofs.SelfPlacesLemmas.{falls-apart}
use Rattle.opus_self.proofs.places.SelfPlaces.over.Goals as goal

has_tail : (c : goal.After-of_header) → HasSelfTail c.of_header.result c.args.bytes.now
has_tail c =
    let p = c.args.self.now in
    let bytes = c.args.bytes.now in
    let last : c.last_len-last.result ≡ p.places.last = c.last_len-last.ensures in
    let front = c.header_len.result + c.width.result in
    let end = length bytes - c.tail_len.result in
    let front_is : front ≡ p.places.used + length (length_bytes p.places.last) = omega (arith, c.header_len.ensures, c.width.ensures, ap (λ n. length (length_bytes n)) last) in
    let end_is : end ≡ length bytes - p.places.tail = ap (λ k. length bytes - k) c.tail_len.ensures in
    let apart = falls-apart p bytes front end (AreBytes-from bytes (λ i. (c.type_inv.bytes i).fits)) c.requires front_is end_is in
    let read = c.of_header.result in
    let body = take (end - front) (drop front bytes) in
    let value_is : read.value ≡ value_with (header_at p.places bytes) p.places.last body =
    c.of_header.ensures.value ∙ ap (λ g. value_with g c.last_len-last.result body) c.header-header.ensures.value
    ∙ ap (λ n. value_with (header_at p.places bytes) n body) last in
    let shape_is : read.shape ≡ p.places.shape = c.of_header.ensures.shape ∙ made-shape p.places bytes c.header-header.result c.header-header.ensures.value in (
      drop end bytes,
      subst (λ v. IsSelfDelimited v read.shape (drop end bytes) bytes) (sym value_is) (subst (λ s. IsSelfDelimited (value_with (header_at p.places bytes) p.places.last body) s (drop end bytes) bytes) (sym shape_is) apart.found),
      c.of_header.ensures.tail ∙ ap tail_of (take_rest bytes end),
    )

pub returns-clause-tail : goal.returns-clause-tail
returns-clause-tail c = has_tail c

pub returns-clause-found : goal.returns-clause-found
returns-clause-found c = ((has_tail c).0, (has_tail c).1)

pub returns-clause-only : goal.returns-clause-only
returns-clause-only c v s spelled =
    let p = c.of_header.result in
    let same = IsSelfDelimited-unique p.value v p.shape s _ spelled.0 c.args.bytes.now (has_tail c).1 spelled.1 in
    (same.0, same.1)

pub returns-clause-most : goal.returns-clause-most
returns-clause-most c =
    omega (arith, c.of_header.ensures.size, c.requires.size_is, self-most c.of_header.result.value c.of_header.result.shape c.args.bytes.now ((has_tail c).0, (has_tail c).1))
