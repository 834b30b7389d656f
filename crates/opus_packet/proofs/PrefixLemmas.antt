-- What can still become a packet: a header that isn't whole is completed, and missing bytes are added.
use Rattle.std.proofs.Common.{◌≡◌, ℕ, ◌+◌, ◌-◌, ◌<◌, ◌≤◌, Bool, true, false, List, ◌++◌, length, take, drop, replicate, nat_le, if◌then◌else◌, refl, sym, ap, ◌∙◌, subst, append_assoc, length-append, take-append-drop, take_all, ⊎_elim, length-take-le, take-take, leb-true, leb-false, arith}
use Rattle.std.proofs.Math.Seq.{take-append-add}
use Rattle.std.proofs.lemmas.List.{length-replicate}
use Rattle.opus_packet.specs.declared.fault.Rule.{Rule}
use Rattle.opus_packet.specs.declared.shape.Shape.{Shape}
use Rattle.opus_packet.specs.Value.{max_frame}
use Rattle.opus_packet.specs.Header.{Header, body_size, header_bytes}
use Rattle.opus_packet.specs.HeaderRead.{HeaderRead, whole, partial, refused, header_read}
use Rattle.opus_packet.specs.Value.{PacketValue}
use Rattle.opus_packet.specs.PacketGrammar.{IsSomePacket, header_for}
use Rattle.opus_packet.specs.LongestPrefix.{IsLongestPrefix}
use Rattle.opus_packet.specs.declared.fault.Rule.TheVariants.{R2}
use Rattle.opus_packet.specs.PacketFault.{fault, rule_of_part, fault_by, packet_fault}
use Rattle.std.proofs.lemmas.Bool.{cases_lt}
use Rattle.opus_packet.specs.PacketPrefix.{AreBytes, most_bytes, CanBecome, IsPacketPrefix, BecomesPacket}
use Rattle.opus_packet.specs.HeaderStands.{value_at}
use Rattle.opus_packet.proofs.BytesLemmas.{AreBytes-append, AreBytes-left, AreBytes-zeros}
use Rattle.opus_packet.proofs.HeaderLemmas.{header_read-begins, header_read-spelled, header_read-more, header_read-refused_more, header_read-refused_at}
use Rattle.opus_packet.proofs.GrammarLemmas.{found, only, IsFoundAt, same_header}
pub use Rattle.opus_packet.proofs.GrammarLemmas.{body_size-le}
pub use Rattle.opus_packet.proofs.CompletedLemmas.{CompletesHeader, header_read-completed}

-- a packet prefix becomes a packet

whole_becomes : (bs : List ℕ) → AreBytes bs → (h : Header) → header_read bs ≡ whole h
    → length bs ≤ most_bytes h → BecomesPacket bs
whole_becomes bs are h read fits =
    let more : List ℕ = replicate (most_bytes h - length bs) 0 in
    let zeros : AreBytes more = AreBytes-zeros (most_bytes h - length bs) in
    let room : length more ≡ most_bytes h - length bs = length-replicate (most_bytes h - length bs) 0 in
    let size : length (bs ++ more) ≡ length bs + length more = length-append bs more in (
      more,
      zeros,
      (
        value_at h max_frame (bs ++ more),
        h.shape,
        (
          drop (length (header_bytes h) + body_size h.sizes max_frame) (bs ++ more),
          found (bs ++ more) (AreBytes-append bs more are zeros) h (header_read-more bs are h read more)
              max_frame (omega arith) (omega arith),
        ),
      ),
    )

partial_becomes : (bs : List ℕ) → AreBytes bs → header_read bs ≡ partial → BecomesPacket bs
partial_becomes bs are read =
    let c = header_read-completed bs are read in
    let size : length (bs ++ c.more) ≡ length (header_bytes c.header) = ap length c.spelled in
    let (more, zeros, is) = whole_becomes (bs ++ c.more) (AreBytes-append bs c.more are c.bytes)
    c.header c.read (omega arith) in (
      c.more ++ more,
      AreBytes-append c.more more c.bytes zeros,
      subst IsSomePacket (append_assoc bs c.more more) is,
    )

pub becomes : (bs : List ℕ) → AreBytes bs → IsPacketPrefix bs → BecomesPacket bs
becomes bs are can = go (header_read bs) refl can
  where
    go : (r : HeaderRead) → header_read bs ≡ r → CanBecome r (length bs) → BecomesPacket bs
    go (whole h) read fits = whole_becomes bs are h read fits
    go partial read fits = partial_becomes bs are read
    go (refused rule place) read fits = absurd fits

-- what becomes a packet is a packet prefix

prefix_by : (bs more : List ℕ) → AreBytes bs → (v : PacketValue) (s : Shape) (tail : List ℕ) (n : ℕ)
    → IsFoundAt v s tail (bs ++ more) n → (r : HeaderRead) → header_read bs ≡ r → CanBecome r (length bs)
prefix_by bs more are v s tail n at (whole h) read =
    let g = header_for v s in
    let same : g ≡ h = same_header (sym at.read ∙ header_read-more bs are h read more) in
    let longer = length-append bs more in
    let last = body_size-le g.sizes n max_frame at.fits in
    let size = at.size in
    let most : length bs ≤ most_bytes g = omega arith in
    subst (λ k. length bs ≤ most_bytes k) same most
prefix_by bs more are v s tail n at partial read = tt
prefix_by bs more are v s tail n at (refused rule place) read =
    let never = header_read-refused_more bs rule place read more in
    let ever = at.read in
    cc

pub prefix_of_packet : (bs more : List ℕ) → AreBytes (bs ++ more) → IsSomePacket (bs ++ more)
    → IsPacketPrefix bs
prefix_of_packet bs more are (v, s, (tail, p)) =
    let (n, at) = only v s tail (bs ++ more) p in
    prefix_by bs more (AreBytes-left bs more are) v s tail n at (header_read bs) refl

-- the place of a fault

pub header_read-take : (bs : List ℕ) → AreBytes bs → (h : Header) → header_read bs ≡ whole h → (n : ℕ)
    → length (header_bytes h) ≤ n → header_read (take n bs) ≡ whole h
header_read-take bs are h read n past =
    let begins = header_read-begins bs are h read in
    let front = length (header_bytes h) in
    let up_to : n ≡ front + (n - front) = omega arith in
    ap header_read
    (ap (take n) begins.spelled ∙ ap (λ k. take k (header_bytes h ++ begins.rest)) up_to
    ∙ take-append-add (header_bytes h) begins.rest (n - front))
    ∙ header_read-spelled h begins.is_header (take (n - front) begins.rest)

whole_can : (bs : List ℕ) (h : Header) → header_read bs ≡ whole h → length bs ≤ most_bytes h
    → IsPacketPrefix bs
whole_can bs h read fits = subst (λ r. CanBecome r (length bs)) (sym read) fits

whole_fits : (bs : List ℕ) (h : Header) → header_read bs ≡ whole h → IsPacketPrefix bs
    → length bs ≤ most_bytes h
whole_fits bs h read can = subst (λ r. CanBecome r (length bs)) read can

itself_longest : (bs : List ℕ) → IsPacketPrefix bs → IsLongestPrefix bs (length bs)
itself_longest bs can = record {
  within = omega arith;
  is_prefix = subst IsPacketPrefix (sym (take_all (length bs) bs (omega arith))) can;
  longest = (λ n past within is. omega arith);
}

most_longest : (bs : List ℕ) → AreBytes bs → (h : Header) → header_read bs ≡ whole h
    → most_bytes h < length bs → IsLongestPrefix bs (most_bytes h)
most_longest bs are h read long =
    let most = most_bytes h in
    let size : length (take most bs) ≡ most = length-take-le most bs (omega arith) in
    record {
      within = omega arith;
      is_prefix = whole_can (take most bs) h (header_read-take bs are h read most (omega arith)) (omega arith);
      longest = (λ n past within is.
          let sized : length (take n bs) ≡ n = length-take-le n bs within in
          let fits = whole_fits (take n bs) h (header_read-take bs are h read n (omega arith)) is in
          omega arith);
    }

refused_longest : (bs : List ℕ) (rule : Rule) (place : ℕ) → header_read bs ≡ refused rule place → IsLongestPrefix bs place
refused_longest bs rule place read =
    let at = header_read-refused_at bs rule place read in
    let inside = at.within in
    record {
      within = omega arith;
      is_prefix = subst (λ r. CanBecome r (length (take place bs))) (sym at.before) tt;
      longest = (λ n past within is.
          let front : take (place + 1) (take n bs) ≡ take (place + 1) bs = take-take (place + 1) n bs (omega arith) in
          let behind = drop (place + 1) (take n bs) in
          let split : take n bs ≡ take (place + 1) bs ++ behind =
          sym (take-append-drop (place + 1) (take n bs)) ∙ ap (λ l. l ++ behind) front in
          let never : header_read (take n bs) ≡ refused rule place =
          ap header_read split ∙ header_read-refused_more (take (place + 1) bs) rule place at.there behind in
          subst (λ r. CanBecome r (length (take n bs))) never is);
    }

fault_at : (bs : List ℕ) → AreBytes bs → (r : HeaderRead) → header_read bs ≡ r
    → IsLongestPrefix bs (fault_by r bs).place
fault_at bs are (whole h) read = go (nat_le (length bs) (most_bytes h)) refl
  where
    go : (b : Bool) → nat_le (length bs) (most_bytes h) ≡ b
        → IsLongestPrefix bs (if b then fault (rule_of_part bs) (length bs) else fault R2 (most_bytes h)).place
    go true short = itself_longest bs (whole_can bs h read (leb-true (length bs) (most_bytes h) short))
    go false long = most_longest bs are h read (leb-false (length bs) (most_bytes h) long)
fault_at bs are partial read =
    itself_longest bs (subst (λ r. CanBecome r (length bs)) (sym read) tt)
fault_at bs are (refused rule place) read = refused_longest bs rule place read

pub packet_fault-longest : (bs : List ℕ) → AreBytes bs → IsLongestPrefix bs (packet_fault bs).place
packet_fault-longest bs are = fault_at bs are (header_read bs) refl

-- a packet prefix is its own longest one
pub IsLongestPrefix-whole : (bs : List ℕ) (place : ℕ) → IsLongestPrefix bs place → IsPacketPrefix bs
    → place ≡ length bs
IsLongestPrefix-whole bs place longest can =
    let within = longest.within in
    let itself : IsPacketPrefix (take (length bs) bs) =
    subst IsPacketPrefix (sym (take_all (length bs) bs (omega arith))) can in
    ⊎_elim (λ less. absurd (longest.longest (length bs) less (omega arith) itself)) (λ more. omega arith)
    (cases_lt place (length bs))
