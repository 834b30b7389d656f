-- A fault that is decided stays, however the bytes go on, and it is decided behind the byte at its place.
use Rattle.std.proofs.Common.{◌≡◌, ℕ, ◌+◌, ◌<◌, Bool, true, false, List, [], ◌++◌, length, take, nat_le, if◌then◌else◌, refl, sym, ap, ◌∙◌, subst, length-append, length-take-le, append-nil, leb-true, leb-false, arith}
use Rattle.opus_packet.specs.declared.fault.Rule.TheVariants.{R2}
use Rattle.opus_packet.specs.declared.shape.Shape.{Shape}
use Rattle.opus_packet.specs.Value.{PacketValue}
use Rattle.opus_packet.specs.Header.{Header}
use Rattle.opus_packet.specs.HeaderRead.{HeaderRead, whole, partial, refused, header_read}
use Rattle.opus_packet.specs.PacketFault.{fault, rule_of_part, fault_by, packet_fault}
use Rattle.opus_packet.specs.PacketGrammar.{Spells}
use Rattle.opus_packet.specs.PacketPrefix.{AreBytes, most_bytes, IsPacketPrefix}
use Rattle.opus_packet.specs.SelfGrammar.{BeginsWithSelf}
use Rattle.opus_packet.specs.SelfPrefix.{SelfHeaderRead, sized, unsized, never, after_header, self_header_read, self_fault_by, self_delimited_fault}
use Rattle.opus_packet.proofs.HeaderLemmas.{header_read-more, header_read-refused_more, header_read-refused_at}
use Rattle.opus_packet.proofs.PrefixLemmas.{header_read-take, prefix_of_packet, packet_fault-longest, IsLongestPrefix-whole}
use Rattle.opus_self.proofs.SelfLemmas.{begins_only}
use Rattle.opus_self.proofs.SizedLemmas.{way_to}
use Rattle.opus_feed.specs.declared.framing.Framing.{Framing}
use Rattle.opus_feed.specs.declared.framing.Framing.TheVariants.{Whole, SelfDelimited}
use Rattle.opus_feed.specs.Packets.{IsNone, fault_of}
use Rattle.pack_records.specs.Early.{IsEarly}

-- undelimited packets

long_fault : (h : Header) (bs : List ℕ) → most_bytes h < length bs → fault_by (whole h) bs ≡ fault R2 (most_bytes h)
long_fault h bs long = go (nat_le (length bs) (most_bytes h)) refl
  where
    go : (b : Bool) → nat_le (length bs) (most_bytes h) ≡ b
        → (if b then fault (rule_of_part bs) (length bs) else fault R2 (most_bytes h)) ≡ fault R2 (most_bytes h)
    go true short = let fits = leb-true (length bs) (most_bytes h) short in absurd (omega arith)
    go false past = refl

-- a whole header whose packet is too long
is_long : (h : Header) (bs : List ℕ) → (fault_by (whole h) bs).place < length bs → most_bytes h < length bs
is_long h bs early = go (nat_le (length bs) (most_bytes h)) refl early
  where
    go : (b : Bool) → nat_le (length bs) (most_bytes h) ≡ b
        → (if b then fault (rule_of_part bs) (length bs) else fault R2 (most_bytes h)).place < length bs
        → most_bytes h < length bs
    go true short at = absurd (omega arith)
    go false past at = leb-false (length bs) (most_bytes h) past

more_by : (b more : List ℕ) → AreBytes b → (r : HeaderRead) → header_read b ≡ r → (fault_by r b).place < length b
    → packet_fault (b ++ more) ≡ fault_by r b
more_by b more are (whole h) read early =
    let long = is_long h b early in
    let longer : most_bytes h < length (b ++ more) = omega (arith, length-append b more) in
    ap (λ r. fault_by r (b ++ more)) (header_read-more b are h read more)
    ∙ long_fault h (b ++ more) longer ∙ sym (long_fault h b long)
more_by b more are partial read early = absurd (omega arith)
more_by b more are (refused rule place) read early =
    ap (λ r. fault_by r (b ++ more)) (header_read-refused_more b rule place read more)

front_by : (b : List ℕ) → AreBytes b → (r : HeaderRead) → header_read b ≡ r → (place : ℕ)
    → place ≡ (fault_by r b).place → place < length b
    → (packet_fault (take (place + 1) b)).place < length (take (place + 1) b)
front_by b are (whole h) read place at early =
    let long = is_long h b (subst (λ n. n < length b) at early) in
    let most : place ≡ most_bytes h = at ∙ ap (λ f. f.place) (long_fault h b long) in
    let front = take (place + 1) b in
    let size : length front ≡ place + 1 = length-take-le (place + 1) b (omega arith) in
    let there : header_read front ≡ whole h = header_read-take b are h read (place + 1) (omega arith) in
    let past : most_bytes h < length front = omega arith in
    let is : packet_fault front ≡ fault R2 (most_bytes h) =
    ap (λ r. fault_by r front) there ∙ long_fault h front past in
    let where_is : (packet_fault front).place ≡ most_bytes h = ap (λ f. f.place) is in
    omega arith
front_by b are partial read place at early = absurd (omega arith)
front_by b are (refused rule p) read place at early =
    let found = header_read-refused_at b rule p read in
    let front = take (place + 1) b in
    let size : length front ≡ place + 1 = length-take-le (place + 1) b (omega arith) in
    let there : header_read front ≡ refused rule p = subst (λ n. header_read (take (n + 1) b) ≡ refused rule p) (sym at) found.there in
    let where_is : (packet_fault front).place ≡ p = ap (λ r. (fault_by r front).place) there in
    omega arith

none_whole : (b : List ℕ) → AreBytes b → IsEarly Whole b → (v : PacketValue) (s : Shape) → Spells v s b → ⊥
none_whole b are early v s spells =
    let all : b ++ [] ≡ b = append-nil b in
    let prefix : IsPacketPrefix b = prefix_of_packet b [] (subst AreBytes (sym all) are)
    (subst (λ l. (w : PacketValue) × (u : Shape) × Spells w u l) (sym all) (v, s, spells)) in
    let end = IsLongestPrefix-whole b (packet_fault b).place (packet_fault-longest b are) prefix in
    omega arith

-- self-delimited packets

self_more_by : (b more : List ℕ) → (r : SelfHeaderRead) → self_header_read b ≡ r
    → (self_fault_by r (length b)).place < length b
    → self_delimited_fault (b ++ more) ≡ self_fault_by r (length b)
self_more_by b more (sized h n) read early = absurd (omega arith)
self_more_by b more unsized read early = absurd (omega arith)
self_more_by b more (never rule place) read early =
    let ever : self_header_read (b ++ more) ≡ never rule place =
    ap (after_header (b ++ more))
    (header_read-refused_more b rule place (way_to b (never rule place) read) more) in
    ap (λ r. self_fault_by r (length (b ++ more))) ever

self_front_by : (b : List ℕ) → (r : SelfHeaderRead) → self_header_read b ≡ r → (place : ℕ)
    → place ≡ (self_fault_by r (length b)).place → place < length b
    → (self_delimited_fault (take (place + 1) b)).place < length (take (place + 1) b)
self_front_by b (sized h n) read place at early = absurd (omega arith)
self_front_by b unsized read place at early = absurd (omega arith)
self_front_by b (never rule p) read place at early =
    let found = header_read-refused_at b rule p (way_to b (never rule p) read) in
    let front = take (place + 1) b in
    let size : length front ≡ place + 1 = length-take-le (place + 1) b (omega arith) in
    let there : header_read front ≡ refused rule p = subst (λ n. header_read (take (n + 1) b) ≡ refused rule p) (sym at) found.there in
    let said : self_header_read front ≡ never rule p = ap (after_header front) there in
    let where_is : (self_delimited_fault front).place ≡ p = ap (λ r. (self_fault_by r (length front)).place) said in
    omega arith

none_self : (b : List ℕ) → IsEarly SelfDelimited b → (v : PacketValue) (s : Shape) (used : ℕ)
    → BeginsWithSelf v s used b → ⊥
none_self b early v s used begins =
    let read = (begins_only v s used b begins).read in
    let end : (self_delimited_fault b).place ≡ length b = ap (λ r. (self_fault_by r (length b)).place) read in
    omega arith

-- both

pub early_more : (framing : Framing) (b more : List ℕ) → AreBytes b → IsEarly framing b
    → fault_of framing (b ++ more) ≡ fault_of framing b
early_more Whole b more are early = more_by b more are (header_read b) refl early
early_more SelfDelimited b more are early = self_more_by b more (self_header_read b) refl early

pub early_none : (framing : Framing) (b : List ℕ) → AreBytes b → IsEarly framing b → IsNone framing b
early_none Whole b are early = none_whole b are early
early_none SelfDelimited b are early = none_self b early

-- the front up to the fault's byte has the fault
pub early_front : (framing : Framing) (b : List ℕ) → AreBytes b → IsEarly framing b
    → IsEarly framing (take ((fault_of framing b).place + 1) b)
early_front Whole b are early = front_by b are (header_read b) refl (packet_fault b).place refl early
early_front SelfDelimited b are early =
    self_front_by b (self_header_read b) refl (self_delimited_fault b).place refl early
