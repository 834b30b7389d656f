-- The laws on headers, fronts and rules in a packet's own terms.
use Rattle.std.proofs.Common.{◌≡◌, ℕ, zero, suc, ◌+◌, ◌*◌, ◌<◌, ◌⊎◌, inl, inr, ◌↔◌, Bool, true, false, ◌&&◌, List, [], ◌∷◌, ◌++◌, length, take, replicate, nat_lt, nat_le, if◌then◌else◌, refl, sym, ap, ◌∙◌, subst, length-append, ltb-true, ltb-false, leb-false, le-ltb, take_all, arith}
use Rattle.std.proofs.lemmas.Bool.{lt-leb}
use Rattle.std.proofs.lemmas.List.{length-replicate}
use Rattle.opus_toc.specs.Toc.{config_of, code_of}
use Rattle.opus_toc.specs.Configuration.{samples_of}
use Rattle.opus_packet.specs.declared.fault.Rule.{Rule}
use Rattle.opus_packet.specs.declared.fault.Rule.TheVariants.{R1, R2, R3, R4, R5, R6, R7, PadLimit, Cut}
use Rattle.opus_packet.specs.Value.{PacketValue, max_frame, max_duration}
use Rattle.opus_packet.specs.Header.{Header, header_bytes, body_size, padding_data}
use Rattle.opus_packet.specs.HeaderRead.{HeaderRead, whole, partial, refused, frames_of, is_count, vbr_of, header_read}
use Rattle.opus_packet.specs.HeaderStands.{value_at}
use Rattle.opus_packet.specs.PacketGrammar.{header_for, IsPacket}
use Rattle.opus_packet.specs.PacketPrefix.{AreBytes, most_bytes, IsPacketPrefix, BecomesPacket}
use Rattle.opus_packet.specs.PacketFault.{fault, rule_of_code, code_3_rule, rule_of_part, fault_by, packet_fault}
use Rattle.opus_packet.specs.LongestFront.{IsLongestFront}
use Rattle.opus_packet.specs.PacketHeader.{IsPacketHeader, BeginsWithPacketHeader}
use Rattle.opus_packet.specs.Refusals.{HasBadCount, IsPastLongest}
use Rattle.opus_packet.proofs.BytesLemmas.{AreBytes-append, AreBytes-left, AreBytes-take, AreBytes-zeros}
use Rattle.opus_packet.proofs.HeaderLemmas.{IsHeader, header_read-begins, header_read-spelled, Refused, at_count, at_padding, header_read-refused, Refused-read}
use Rattle.opus_packet.proofs.GrammarLemmas.{found, only, same_header, header_for-is, body_size-le}
use Rattle.opus_packet.proofs.PrefixLemmas.{becomes, prefix_of_packet, packet_fault-longest}

-- headers

IsHeader-from : (h : Header) → IsPacketHeader h → IsHeader h
IsHeader-from h p = subst IsHeader p.same (header_for-is p.value p.shape p.is_value p.suits)

-- the longest packet with a header
record HasLongest (h : Header) : Type 0 where
  value : PacketValue
  tail : List ℕ
  bytes : List ℕ
  is : IsPacket value h.shape tail bytes
  same : header_for value h.shape ≡ h
  size : length bytes ≡ most_bytes h

longest_packet : (h : Header) → IsHeader h → AreBytes (header_bytes h) → HasLongest h
longest_packet h is are =
    let missing = body_size h.sizes max_frame + padding_data h.shape.pad in
    let zeros : List ℕ = replicate missing 0 in
    let bs = header_bytes h ++ zeros in
    let read = header_read-spelled h is zeros in
    let size = length-append (header_bytes h) zeros in
    let count : length zeros ≡ missing = length-replicate missing 0 in
    let p = found bs (AreBytes-append (header_bytes h) zeros are (AreBytes-zeros missing)) h read max_frame (omega arith) (omega arith) in
    record {
      value = value_at h max_frame bs;
      tail = _;
      bytes = bs;
      is = p;
      same = same_header (sym (only _ h.shape _ bs p).1.read ∙ read);
      size = omega arith;
    }

pub header_read-exactly : (bs : List ℕ) (h : Header) → AreBytes bs
    → (header_read bs ≡ whole h) ↔ BeginsWithPacketHeader bs h
header_read-exactly bs h are = (there, back)
  where
    there : header_read bs ≡ whole h → BeginsWithPacketHeader bs h
    there read =
        let begins = header_read-begins bs are h read in
        let l = longest_packet h begins.is_header (AreBytes-left (header_bytes h) begins.rest (subst AreBytes begins.spelled are)) in
        record {
          is_header = record { value = l.value; shape = h.shape; is_value = l.is.value; suits = l.is.suits; same = l.same };
          rest = begins.rest;
          spelled = begins.spelled;
        }

    back : BeginsWithPacketHeader bs h → header_read bs ≡ whole h
    back b = ap header_read b.spelled ∙ header_read-spelled h (IsHeader-from h b.is_header) b.rest

-- fronts

pub becomes-prefix : (bs : List ℕ) → AreBytes bs → BecomesPacket bs → IsPacketPrefix bs
becomes-prefix bs are (more, bytes, is) = prefix_of_packet bs more (AreBytes-append bs more are bytes) is

pub packet_fault-longest_front : (bs : List ℕ) → AreBytes bs → IsLongestFront bs (packet_fault bs).place
packet_fault-longest_front bs are =
    let l = packet_fault-longest bs are in
    let place = (packet_fault bs).place in
    record {
      within = l.within;
      becomes = becomes (take place bs) (AreBytes-take place bs are) l.is_prefix;
      longest = (λ n past within can. l.longest n past within (becomes-prefix (take n bs) (AreBytes-take n bs are) can));
    }

pub IsLongestFront-whole : (bs : List ℕ) (place : ℕ) → IsLongestFront bs place → BecomesPacket bs → place ≡ length bs
IsLongestFront-whole bs place l can = go (nat_lt place (length bs)) refl
  where
    go : (b : Bool) → nat_lt place (length bs) ≡ b → place ≡ length bs
    go true less = absurd (l.longest (length bs) (ltb-true place (length bs) less) (omega arith)
        (subst BecomesPacket (sym (take_all (length bs) bs (omega arith))) can))
    go false more = let least = ltb-false place (length bs) more in let within = l.within in omega arith

-- rules

-- a rule that bytes break which become a packet
abbrev IsPartRule : Rule → Type 0
IsPartRule R1 = Unit {0}
IsPartRule R2 = ⊥
IsPartRule R3 = Unit {0}
IsPartRule R4 = Unit {0}
IsPartRule R5 = ⊥
IsPartRule R6 = Unit {0}
IsPartRule R7 = Unit {0}
IsPartRule PadLimit = ⊥
IsPartRule Cut = ⊥

part_of_code_3 : (bs : List ℕ) → IsPartRule (code_3_rule bs)
part_of_code_3 [] = tt
part_of_code_3 (count ∷ bs) = go (vbr_of count)
  where
    go : (b : Bool) → IsPartRule (if b then R7 else R6)
    go true = tt
    go false = tt

part_of_code : (code : ℕ) (bs : List ℕ) → IsPartRule (rule_of_code code bs)
part_of_code zero bs = tt
part_of_code (suc zero) bs = tt
part_of_code (suc (suc zero)) bs = tt
part_of_code (suc (suc (suc code))) bs = part_of_code_3 bs

part_rule : (bs : List ℕ) → IsPartRule (rule_of_part bs)
part_rule [] = tt
part_rule (toc ∷ bs) = part_of_code (code_of toc) bs

-- a count that is refused
bad_parts : (frames samples : ℕ) (some short : Bool) → nat_lt 0 frames ≡ some → nat_le samples max_duration ≡ short
    → (some && short) ≡ false → (frames ≡ 0) ⊎ (max_duration < samples)
bad_parts frames samples false short s l bad = inl (let none = ltb-false 0 frames s in omega arith)
bad_parts frames samples true false s l bad = inr (leb-false samples max_duration l)
bad_parts frames samples true true s l bad = cc

and_false : (b : Bool) → (b && false) ≡ false
and_false true = refl
and_false false = refl

bad_count : (toc count : ℕ) → (frames_of count ≡ 0) ⊎ (max_duration < frames_of count * samples_of (config_of toc))
    → is_count toc count ≡ false
bad_count toc count (inl none) =
    ap (λ b. b && nat_le (frames_of count * samples_of (config_of toc)) max_duration) (le-ltb 0 (frames_of count) (omega arith))
bad_count toc count (inr long) =
    ap (λ b. nat_lt 0 (frames_of count) && b) (lt-leb (frames_of count * samples_of (config_of toc)) max_duration long)
    ∙ and_false (nat_lt 0 (frames_of count))

pub Refused-R5 : (bs : List ℕ) (rule : Rule) (place : ℕ) → Refused bs rule place → rule ≡ R5 → HasBadCount bs
Refused-R5 bs rule place (at_count {toc} {count} code bad) is = (
  code,
  bad_parts (frames_of count) (frames_of count * samples_of (config_of toc)) (nat_lt 0 (frames_of count))
      (nat_le (frames_of count * samples_of (config_of toc)) max_duration) refl refl bad,
)
Refused-R5 bs rule place (at_padding code ok p read) is = cc

pub HasBadCount-read : (bs : List ℕ) → HasBadCount bs → header_read bs ≡ refused R5 1
HasBadCount-read [] bad = absurd bad
HasBadCount-read (toc ∷ []) bad = absurd bad
HasBadCount-read (toc ∷ count ∷ bs) bad = Refused-read (at_count bad.0 (bad_count toc count bad.1))

-- the bytes are longer than every packet with their header
record IsLong (bs : List ℕ) : Type 0 where
  header : Header
  read : header_read bs ≡ whole header
  long : most_bytes header < length bs

-- where a fault names no rule of a part
data Named (bs : List ℕ) : Rule → Type 0 where
  of_part : {rule : Rule} → IsPartRule rule → Named bs rule
  of_long : IsLong bs → Named bs R2
  of_refused : {rule : Rule} {place : ℕ} → Refused bs rule place → Named bs rule

named : (bs : List ℕ) → Named bs (packet_fault bs).rule
named bs = go (header_read bs) refl
  where
    go : (r : HeaderRead) → header_read bs ≡ r → Named bs (fault_by r bs).rule
    go (whole h) read = sized (nat_le (length bs) (most_bytes h)) refl
      where
        sized : (b : Bool) → nat_le (length bs) (most_bytes h) ≡ b
            → Named bs (if b then fault (rule_of_part bs) (length bs) else fault R2 (most_bytes h)).rule
        sized true short = of_part (part_rule bs)
        sized false long = of_long (record { header = h; read = read; long = leb-false (length bs) (most_bytes h) long })
    go partial read = of_part (part_rule bs)
    go (refused rule place) read = of_refused (header_read-refused bs rule place read)

named_R5 : (bs : List ℕ) (rule : Rule) → Named bs rule → rule ≡ R5 → HasBadCount bs
named_R5 bs rule (of_part part) is = absurd (subst IsPartRule is part)
named_R5 bs rule (of_long long) is = cc
named_R5 bs rule (of_refused {place} r) is = Refused-R5 bs rule place r is

pub packet_fault-R5 : (bs : List ℕ) → ((packet_fault bs).rule ≡ R5) ↔ HasBadCount bs
packet_fault-R5 bs = (
  named_R5 bs (packet_fault bs).rule (named bs),
  λ bad. ap (λ r. (fault_by r bs).rule) (HasBadCount-read bs bad),
)

past : (bs : List ℕ) → AreBytes bs → IsLong bs → IsPastLongest bs
past bs are l = record {
  header = l.header;
  begins = (header_read-exactly bs l.header are).0 l.read;
  shorter = λ v s packet same spelled.
      let (n, at) = only v s spelled.0 packet spelled.1 in
      let size : length packet ≡ length (header_bytes l.header) + body_size l.header.sizes n + padding_data l.header.shape.pad =
      subst (λ (g : Header). length packet ≡ length (header_bytes g) + body_size g.sizes n + padding_data g.shape.pad) same at.size in
      let less = body_size-le l.header.sizes n max_frame at.fits in
      let long = l.long in
      omega arith;
}

named_R2 : (bs : List ℕ) → AreBytes bs → (rule : Rule) → Named bs rule → rule ≡ R2 → IsPastLongest bs
named_R2 bs are rule (of_part part) is = absurd (subst IsPartRule is part)
named_R2 bs are rule (of_long long) is = past bs are long
named_R2 bs are rule (of_refused (at_count code bad)) is = cc
named_R2 bs are rule (of_refused (at_padding code ok p read)) is = cc

long_R2 : (bs : List ℕ) → AreBytes bs → IsPastLongest bs → (packet_fault bs).rule ≡ R2
long_R2 bs are p =
    let h = p.header in
    let begins = p.begins in
    let l = longest_packet h (IsHeader-from h begins.is_header)
    (AreBytes-left (header_bytes h) begins.rest (subst AreBytes begins.spelled are)) in
    let size = l.size in
    let more = p.shorter l.value h.shape l.bytes l.same (l.tail, l.is) in
    let long : nat_le (length bs) (most_bytes h) ≡ false = lt-leb (length bs) (most_bytes h) (omega arith) in
    ap (λ r. (fault_by r bs).rule) ((header_read-exactly bs h are).1 begins)
    ∙ ap (λ b. (if b then fault (rule_of_part bs) (length bs) else fault R2 (most_bytes h)).rule) long

pub packet_fault-R2 : (bs : List ℕ) → AreBytes bs → ((packet_fault bs).rule ≡ R2) ↔ IsPastLongest bs
packet_fault-R2 bs are = (named_R2 bs are (packet_fault bs).rule (named bs), long_R2 bs are)
