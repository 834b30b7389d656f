-- The lent bytes of a packet spell its value and no other.
use Rattle.std.proofs.Common.{◌≡◌, ℕ, ◌+◌, ◌-◌, ◌≤◌, Bool, true, false, nat_le, ◌&&◌, ◌==◌, if◌then◌else◌, List, [], ◌∷◌, ◌++◌, length, drop, Option, Some, None, option_map, Result, Ok, Err, IfOk, refl, sym, ap, ◌∙◌, subst, append-nil, length-append, drop_at, take_all, leb-true, arith}
use Rattle.std.specs.List.{concat}
use Rattle.std.specs.Result.{IsOkAnd, result_ok}
use Rattle.std.proofs.Math.Nat.{mul-div_cancel_left}
use Rattle.std.proofs.lemmas.Bool.{le-leb, eqb-true, eq-eqb}
use Rattle.std.proofs.Math.Seq.{drop-append-add}
use Rattle.opus_flen.specs.FrameLength.{length_bytes}
use Rattle.opus_packet.specs.declared.shape.Shape.{Shape}
use Rattle.opus_packet.specs.Value.{PacketValue, IsPacketValue, max_frame}
use Rattle.opus_packet.specs.Header.{Header, Sizes, equal, given, header_bytes, frame_count, body_size, padding_data}
use Rattle.opus_packet.specs.HeaderRead.{HeaderRead, whole, partial, refused, header_read}
use Rattle.opus_packet.specs.HeaderStands.{value_at}
use Rattle.opus_packet.specs.PacketGrammar.{IsPacket, Spells, header_for}
use Rattle.opus_packet.specs.PacketPrefix.{AreBytes}
use Rattle.opus_packet.specs.SelfGrammar.{IsSelfDelimited, BeginsWithSelf}
use Rattle.opus_packet.specs.SelfPrefix.{SelfHeaderRead, sized, unsized, never, self_header_read, self_size}
use Rattle.opus_packet.specs.Tail.{max_tail, kept, counted, kept_bytes}
use Rattle.opus_packet.proofs.GrammarLemmas.{found, only, header_for-is, body_size-unique}
use Rattle.opus_self.specs.ValueBehind.{value_behind}
use Rattle.opus_self.proofs.SelfLemmas.{last_of, last_is, rest_of, spelled_apart, self_header_read-packet, length-packet, undelimited}
use Rattle.opus_self.proofs.SizedLemmas.{begins_found}
use Rattle.opus_writer.proofs.KeptLemmas.{kept-is_packet, kept_self-is_packet}
use Rattle.opus_feed.specs.declared.framing.Framing.{Framing}
use Rattle.opus_feed.specs.declared.framing.Framing.TheVariants.{Whole, SelfDelimited}
use Rattle.opus_feed.specs.declared.padding.Padding.{Padding}
use Rattle.opus_feed.specs.declared.padding.Padding.TheVariants.{Drop, Keep}
use Rattle.opus_feed.specs.Tails.{tail_kept}
use Rattle.job_loop.specs.Shown.{Shown}
use Rattle.pack_records.specs.declared.item.Item.{Item}
use Rattle.pack_records.specs.Fits.{form_of}
use Rattle.pack_records.specs.Holds.{Reads, HoldsPacket}
use Rattle.pack_records.specs.Lent.{last_in, whole_size, last_for, value_if, whole_value, behind, self_value, lent_value}
use Rattle.pack_records.proofs.FormLemmas.{value_of}

-- undelimited packets

last_in-body : (sizes : Sizes) (n : ℕ) → 1 ≤ frame_count sizes → last_in sizes (body_size sizes n) ≡ n
last_in-body (equal count) n some = mul-div_cancel_left n some
last_in-body (given lengths) n some = omega arith

value_if-true : (h : Header) (n : ℕ) (bytes : List ℕ) → n ≤ max_frame → length bytes ≡ whole_size h n
    → value_if h n bytes ≡ Some (value_at h n bytes)
value_if-true h n bytes fits size =
    ap (λ b. if b && (length bytes == whole_size h n) then Some (value_at h n bytes) else None) (le-leb n max_frame fits)
    ∙ ap (λ b. if b then Some (value_at h n bytes) else None) (eq-eqb (length bytes) (whole_size h n) size)

whole_spelled : (v : PacketValue) (s : Shape) (tail bytes : List ℕ) → IsPacket v s tail bytes
    → whole_value (header_read bytes) bytes ≡ Some v
whole_spelled v s tail bytes p =
    let (n, at) = only v s tail bytes p in
    let h = header_for v s in
    let size : length bytes ≡ whole_size h n = at.size in
    let body : length bytes - length (header_bytes h) - padding_data h.shape.pad ≡ body_size h.sizes n = omega arith in
    let last : last_for h (length bytes) ≡ n =
    ap (last_in h.sizes) body ∙ last_in-body h.sizes n (header_for-is v s p.value p.suits).some in
    ap (λ r. whole_value r bytes) at.read ∙ ap (λ m. value_if h m bytes) last ∙ value_if-true h n bytes at.fits size
    ∙ ap (λ w. Some w) (sym at.value_is)

-- some packet of the value
abbrev pub IsSpelled : Framing → PacketValue → List ℕ → Type 0
IsSpelled framing v bytes = (s : Shape) × (tail : List ℕ) × Reads framing v s tail bytes

none≢some : (v : PacketValue) → ◌≡◌ {A = Option PacketValue} None (Some v) → ⊥
none≢some v e = cc

some_is : (v w : PacketValue) → ◌≡◌ {A = Option PacketValue} (Some v) (Some w) → v ≡ w
some_is v w e = cc

if_found : (h : Header) (n : ℕ) (bytes : List ℕ) (v : PacketValue) → AreBytes bytes → header_read bytes ≡ whole h
    → (b c : Bool) → nat_le n max_frame ≡ b → (length bytes == whole_size h n) ≡ c
    → (if b && c then Some (value_at h n bytes) else None) ≡ Some v → IsSpelled Whole v bytes
if_found h n bytes v are read true true fits size is =
    let p = found bytes are h read n (leb-true n max_frame fits) (eqb-true (length bytes) (whole_size h n) size) in
    let tail = drop (length (header_bytes h) + body_size h.sizes n) bytes in
    (h.shape, tail, subst (λ w. IsPacket w h.shape tail bytes) (some_is (value_at h n bytes) v is) p)
if_found h n bytes v are read true false fits size is = absurd (none≢some v is)
if_found h n bytes v are read false true fits size is = absurd (none≢some v is)
if_found h n bytes v are read false false fits size is = absurd (none≢some v is)

whole_only : (bytes : List ℕ) (v : PacketValue) → AreBytes bytes → (r : HeaderRead) → header_read bytes ≡ r
    → whole_value r bytes ≡ Some v → IsSpelled Whole v bytes
whole_only bytes v are (whole h) read is = if_found h (last_for h (length bytes)) bytes v are read _ _ refl refl is
whole_only bytes v are partial read is = absurd (none≢some v is)
whole_only bytes v are (refused rule place) read is = absurd (none≢some v is)

-- self-delimited packets

self_if-true : (h : Header) (n : ℕ) (bytes : List ℕ) → length bytes ≡ self_size h n
    → self_value (sized h n) bytes ≡ Some (value_behind h n (behind h n bytes))
self_if-true h n bytes size =
    ap (λ b. if b then Some (value_behind h n (behind h n bytes)) else None) (eq-eqb (length bytes) (self_size h n) size)

-- the last frame of the undelimited packet in it
last_same : (v : PacketValue) (s : Shape) (tail bytes bs : List ℕ) (m : ℕ) → IsSelfDelimited v s tail bytes
    → length bs ≡ whole_size (header_for v s) m → bs ≡ header_bytes (header_for v s) ++ rest_of v tail
    → m ≡ last_of v
last_same v s tail bytes bs m p size is =
    let h = header_for v s in
    let joined = ap length is ∙ length-append (header_bytes h) (rest_of v tail) in
    let parts = length-append (concat v.frames) tail in
    let last = (last_is v s p.value p.suits).size in
    let padding = p.padding in
    body_size-unique h.sizes m (last_of v) (header_for-is v s p.value p.suits).some (omega arith)

self_spelled : (v : PacketValue) (s : Shape) (tail bytes : List ℕ) → IsSelfDelimited v s tail bytes
    → self_value (self_header_read bytes) bytes ≡ Some v
self_spelled v s tail bytes p =
    let h = header_for v s in
    let n = last_of v in
    let front = header_bytes h in
    let l = length_bytes n in
    let rest = rest_of v tail in
    let read : self_header_read bytes ≡ sized h n =
    ap self_header_read (sym (append-nil bytes)) ∙ self_header_read-packet v s tail bytes p [] in
    let after : behind h n bytes ≡ rest =
    ap (drop (length front + length l)) (spelled_apart v s tail bytes p)
    ∙ drop-append-add front (l ++ rest) (length l) ∙ drop_at l rest (length l) refl in
    let (m, at) = only v s tail (front ++ rest) (undelimited v s tail bytes p) in
    let last : m ≡ n = last_same v s tail bytes (front ++ rest) m p at.size refl in
    let frames : value_at h m (front ++ rest) ≡ value_behind h n rest =
    ap (λ k. value_at h k (front ++ rest)) last ∙ ap (value_behind h n) (drop_at front rest (length front) refl) in
    ap (λ r. self_value r bytes) read ∙ self_if-true h n bytes (length-packet v s tail bytes p)
    ∙ ap (λ w. Some w) (ap (value_behind h n) after ∙ sym frames ∙ sym at.value_is)

self_found : (h : Header) (n : ℕ) (bytes : List ℕ) (v : PacketValue) → AreBytes bytes → self_header_read bytes ≡ sized h n
    → (b : Bool) → (length bytes == self_size h n) ≡ b
    → (if b then Some (value_behind h n (behind h n bytes)) else None) ≡ Some v → IsSpelled SelfDelimited v bytes
self_found h n bytes v are read true size is =
    let whole_is : length bytes ≡ self_size h n = eqb-true (length bytes) (self_size h n) size in
    let begins = begins_found bytes are h n read (omega (arith, whole_is)) in
    let (tail, p) = begins.spelled in
    let value = some_is (value_behind h n (behind h n bytes)) v is in (
      h.shape,
      tail,
      subst (λ w. IsSelfDelimited w h.shape tail bytes) value
          (subst (IsSelfDelimited (value_behind h n (behind h n bytes)) h.shape tail)
          (take_all (self_size h n) bytes (omega (arith, whole_is))) p),
    )
self_found h n bytes v are read false size is = absurd (none≢some v is)

self_only : (bytes : List ℕ) (v : PacketValue) → AreBytes bytes → (r : SelfHeaderRead) → self_header_read bytes ≡ r
    → self_value r bytes ≡ Some v → IsSpelled SelfDelimited v bytes
self_only bytes v are (sized h n) read is = self_found h n bytes v are read _ refl is
self_only bytes v are unsized read is = absurd (none≢some v is)
self_only bytes v are (never rule place) read is = absurd (none≢some v is)

-- both

pub lent_value-spelled : (framing : Framing) (v : PacketValue) (s : Shape) (tail bytes : List ℕ)
    → Reads framing v s tail bytes → lent_value framing bytes ≡ Some v
unfolding lent_value
lent_value-spelled Whole v s tail bytes reads = whole_spelled v s tail bytes reads
lent_value-spelled SelfDelimited v s tail bytes reads = self_spelled v s tail bytes reads

pub lent_value-only : (framing : Framing) (v : PacketValue) (bytes : List ℕ) → AreBytes bytes
    → lent_value framing bytes ≡ Some v → IsSpelled framing v bytes
unfolding lent_value
lent_value-only Whole v bytes are is = whole_only bytes v are (header_read bytes) refl is
lent_value-only SelfDelimited v bytes are is = self_only bytes v are (self_header_read bytes) refl is

pub lent_value-form : (framing : Framing) (v : PacketValue) (tail : List ℕ) → IsPacketValue v → length tail ≤ max_tail
    → lent_value framing (form_of framing v tail) ≡ Some v
lent_value-form Whole v tail is small =
    lent_value-spelled Whole v _ tail (form_of Whole v tail) (kept-is_packet v tail is small)
lent_value-form SelfDelimited v tail is small =
    lent_value-spelled SelfDelimited v _ tail (form_of SelfDelimited v tail) (kept_self-is_packet v tail is small)

-- what is kept of padding bytes is few enough
kept_few : (bytes : List ℕ) (b : Bool) → nat_le (length bytes) max_tail ≡ b
    → length (kept_bytes (if b then kept bytes else counted (length bytes))) ≤ max_tail
kept_few bytes true few = leb-true (length bytes) max_tail few
kept_few bytes false many = omega arith

pub tail-few : (padding : Padding) (tail : List ℕ) → length (kept_bytes (tail_kept padding tail)) ≤ max_tail
tail-few Drop [] = omega arith
tail-few Drop (x ∷ xs) = omega arith
tail-few Keep tail = kept_few tail _ refl

pub lent_value-held : (padding : Padding) (framing : Framing) (start range : ℕ) (bytes : List ℕ) (r : Shown Item)
    (holds : HoldsPacket padding framing start range bytes r) → lent_value framing r.bytes ≡ Some holds.value
lent_value-held padding framing start range bytes r holds =
    ap (λ (s : Shown Item). lent_value framing s.bytes) holds.shows
    ∙ lent_value-form framing holds.value (kept_bytes (tail_kept padding holds.tail))
    (value_of framing holds.value holds.shape holds.tail bytes holds.reads) (tail-few padding holds.tail)

-- what the readers say, as the value

none_told : (framing : Framing) (bytes : List ℕ) → AreBytes bytes → ((v : PacketValue) → IsSpelled framing v bytes → ⊥)
    → None ≡ lent_value framing bytes
none_told framing bytes are none = go (lent_value framing bytes) refl
  where
    go : (o : Option PacketValue) → lent_value framing bytes ≡ o → None ≡ o
    go None is = refl
    go (Some v) is = absurd (none v (lent_value-only framing v bytes are is))

pub whole_told : {P E : Type 0} → (value : P → PacketValue) (shape : P → Shape) (bytes : List ℕ) → AreBytes bytes
    → (r : Result P E) → IfOk r (λ p. Spells (value p) (shape p) bytes)
    → ((v : PacketValue) (s : Shape) → Spells v s bytes → IsOkAnd r (λ p. (value p ≡ v) × (shape p ≡ s)))
    → option_map value (result_ok r) ≡ lent_value Whole bytes
whole_told value shape bytes are (Ok p) found only =
    sym (lent_value-spelled Whole (value p) (shape p) found.0 bytes found.1)
whole_told value shape bytes are (Err e) found only =
    none_told Whole bytes are (λ v (s, tail, reads). only v s (tail, reads))

-- a self-delimited packet is all of the bytes
pub self_told : (v : PacketValue) (s : Shape) (used : ℕ) (bytes : List ℕ) → BeginsWithSelf v s used bytes
    → used ≡ length bytes → Some v ≡ lent_value SelfDelimited bytes
self_told v s used bytes begins all =
    let (tail, p) = begins.spelled in
    sym (lent_value-spelled SelfDelimited v s tail bytes
    (subst (IsSelfDelimited v s tail) (take_all used bytes (omega arith)) p))

pub self_none : (bytes : List ℕ) → AreBytes bytes
    → ((v : PacketValue) (s : Shape) → BeginsWithSelf v s (length bytes) bytes → ⊥) → None ≡ lent_value SelfDelimited bytes
self_none bytes are none = none_told SelfDelimited bytes are spelled
  where
    spelled : (v : PacketValue) → IsSpelled SelfDelimited v bytes → ⊥
    spelled v (s, tail, p) =
        none v s record {
          within = omega arith;
          spelled = (tail, subst (IsSelfDelimited v s tail) (sym (take_all (length bytes) bytes (omega arith))) p);
        }
