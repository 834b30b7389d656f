-- The laws on fronts, rules and sizes in a packet's own terms.
use Rattle.std.proofs.Common.{◌≡◌, ℕ, ◌≤◌, ◌↔◌, List, ◌++◌, length, take, refl, ap, length-append, arith}
use Rattle.opus_flen.specs.FrameLength.{length_bytes}
use Rattle.opus_flen.proofs.LengthLemmas.{length-length_bytes}
use Rattle.opus_packet.specs.declared.fault.Rule.TheVariants.{R5}
use Rattle.opus_packet.specs.declared.shape.Shape.{Shape}
use Rattle.opus_packet.specs.Value.{PacketValue}
use Rattle.opus_packet.specs.Header.{header_bytes}
use Rattle.opus_packet.specs.PacketGrammar.{header_for}
use Rattle.opus_packet.specs.PacketPrefix.{AreBytes}
use Rattle.opus_packet.specs.Refusals.{HasBadCount}
use Rattle.opus_packet.specs.SelfGrammar.{SpellsSelf}
use Rattle.opus_packet.specs.SelfPrefix.{SelfHeaderRead, sized, unsized, never, after_header, self_header_read, self_fault_by, self_delimited_fault}
use Rattle.opus_packet.proofs.BytesLemmas.{AreBytes-take}
use Rattle.opus_packet.proofs.HeaderLemmas.{header_read-refused}
use Rattle.opus_packet.proofs.FrontLemmas.{Refused-R5, HasBadCount-read}
use Rattle.opus_packet.proofs.SizeLemmas.{packet-most}
use Rattle.opus_self.specs.BecomesSelf.{BecomesSelf, BeginsWithNone}
use Rattle.opus_self.specs.LongestSelfFront.{IsLongestSelfFront}
use Rattle.opus_self.proofs.SelfLemmas.{last_of, rest_of, spelled_apart, undelimited}
use Rattle.opus_self.proofs.SelfPrefixLemmas.{way_to, self_becomes, prefix_of_self, self_delimited_fault-longest, self_delimited_fault-whole}

-- fronts

pub self_delimited_fault-longest_front : (bs : List ℕ) → AreBytes bs → BeginsWithNone bs
    → IsLongestSelfFront bs (self_delimited_fault bs).place
self_delimited_fault-longest_front bs are none =
    let l = self_delimited_fault-longest bs are none in
    let place = (self_delimited_fault bs).place in
    record {
      within = l.within;
      becomes = self_becomes (take place bs) (AreBytes-take place bs are) l.is_prefix;
      longest = (λ n past within can. l.longest n past within (prefix_of_self (take n bs) (AreBytes-take n bs are) can));
    }

pub self_delimited_fault-becomes : (bs : List ℕ) → AreBytes bs → BecomesSelf bs
    → (self_delimited_fault bs).place ≡ length bs
self_delimited_fault-becomes bs are can = self_delimited_fault-whole bs (prefix_of_self bs are can)

-- rules

bad_count : (bs : List ℕ) (r : SelfHeaderRead) → self_header_read bs ≡ r → (self_fault_by r (length bs)).rule ≡ R5
    → HasBadCount bs
bad_count bs (sized h n) read is = cc
bad_count bs unsized read is = cc
bad_count bs (never rule place) read is =
    Refused-R5 bs rule place (header_read-refused bs rule place (way_to bs (never rule place) read)) is

pub self_delimited_fault-R5 : (bs : List ℕ) → ((self_delimited_fault bs).rule ≡ R5) ↔ HasBadCount bs
self_delimited_fault-R5 bs = (
  bad_count bs (self_header_read bs) refl,
  λ bad. ap (λ r. (self_fault_by (after_header bs r) (length bs)).rule) (HasBadCount-read bs bad),
)

-- sizes

-- two bytes more than an undelimited packet: the last frame's length
pub self-most : (v : PacketValue) (s : Shape) (bs : List ℕ) → SpellsSelf v s bs → length bs ≤ 16838513
self-most v s bs (tail, p) =
    let front = header_bytes (header_for v s) in
    let l = length_bytes (last_of v) in
    omega (
      arith,
      packet-most v s (front ++ rest_of v tail) (tail, undelimited v s tail bs p),
      length-append front (rest_of v tail),
      ap length (spelled_apart v s tail bs p),
      length-append front (l ++ rest_of v tail),
      length-append l (rest_of v tail),
      (length-length_bytes (last_of v)).1,
    )
