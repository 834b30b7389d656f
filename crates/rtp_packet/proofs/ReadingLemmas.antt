-- The spelling of a packet passes all checks, and says this packet.
use Rattle.std.proofs.Common.{◌≡◌, ℕ, ◌+◌, ◌*◌, ◌-◌, ◌/◌, ◌%◌, ◌≤◌, ◌<◌, Bool, true, false, not, ◌==◌, List, ◌++◌, length, slice_index, take, drop, drop-drop, length-drop, length-append, Option, Some, None, is_some, refl, sym, ap, ◌∙◌, subst, ⊎_elim, arith}
use Rattle.std.specs.Int.{w16, to_be_bytes}
use Rattle.std.specs.List.{slice_range}
use Rattle.std.specs.Prelude.{None as NoFaultFound}
use Rattle.std.proofs.lemmas.List.{take_at, drop_at, get_or-drop, get_or-append-add}
use Rattle.std.proofs.lemmas.Bool.{eqb-true, eqb-false, cond-true, cases_Bool}
use Rattle.byteorder.specs.Endian.{big_number}
use Rattle.rtp_packet.specs.RtpValue.{Extension, RtpValue, IsExtension, IsRtpValue}
use Rattle.rtp_packet.specs.RtpBytes.{bit, front_bytes, extension_bytes, IsPadding, IsRtp}
use Rattle.rtp_packet.specs.RtpFault.{has_padding, has_extension, csrc_end, extension_words, header_size, last_byte, padding_in, rtp_fault}
use Rattle.rtp_packet.specs.Checks.{extension_in, rtp_in}
use Rattle.rtp_packet.proofs.NumberLemmas.{reads_back-two, reads_back-four}
use Rattle.rtp_packet.proofs.CheckLemmas.{IsCount, Passes, none-Passes, header_size-plain, header_size-extended}
use Rattle.rtp_packet.proofs.SpelledLemmas.{padding_in-none, padding_in-some, extension_in-none, regroup}

-- the bits of the first byte

bit-most : (b : Bool) → bit b ≤ 1
bit-most true = omega arith
bit-most false = omega arith

bit-one : (b : Bool) → (bit b == 1) ≡ b
bit-one true = refl
bit-one false = refl

record FirstByte (byte u v n : ℕ) : Type 0 where
  pub version : byte / 64 ≡ 2
  pub padding : byte / 32 % 2 ≡ u
  pub extension : byte / 16 % 2 ≡ v
  pub count : byte % 16 ≡ n

first-parts : (u v n : ℕ) → u ≤ 1 → v ≤ 1 → n ≤ 15 → FirstByte (64 * 2 + 32 * u + 16 * v + n) u v n
first-parts u v n p q r = record {
  version = omega arith;
  padding = omega arith;
  extension = omega arith;
  count = omega arith;
}

-- the second byte

second-type : (marker : Bool) (n : ℕ) → n < 128 → (128 * bit marker + n) % 128 ≡ n
second-type true n fits = omega arith
second-type false n fits = omega arith

second-marker : (marker : Bool) (n : ℕ) → n < 128 → (128 * bit marker + n) / 128 ≡ bit marker
second-marker true n fits = omega arith
second-marker false n fits = omega arith

-- an extension made of equal parts
same_extension : (x y : Extension) → x.profile ≡ y.profile → x.words ≡ y.words → x ≡ y
same_extension x y profile words i = record { profile = profile i; words = words i }

-- how an extension is read off the bytes behind the CSRCs
record ExtensionStands (bytes : List ℕ) (extension : Option Extension) : Type 0 where
  pub size : header_size bytes ≡ csrc_end bytes + length (extension_bytes extension)
  pub same : extension_in bytes ≡ extension

extension-stands : (bytes : List ℕ) (extension : Option Extension) (body : List ℕ) → IsExtension extension
    → has_extension bytes ≡ is_some extension → drop (csrc_end bytes) bytes ≡ extension_bytes extension ++ body
    → ExtensionStands bytes extension
extension-stands bytes None body is has behind = record {
  size = omega (arith, header_size-plain bytes has);
  same = extension_in-none bytes has;
}
extension-stands bytes (Some e) body is has behind =
    let at = csrc_end bytes in
    let number : drop (at + 2) bytes ≡ to_be_bytes w16 (length e.words / 4) ++ (e.words ++ body) =
    sym (drop-drop 2 at bytes) ∙ ap (drop 2) behind in
    let rest : drop (at + 4) bytes ≡ e.words ++ body = sym (drop-drop 4 at bytes) ∙ ap (drop 4) behind in
    let count : extension_words bytes ≡ length e.words / 4 =
    ap (big_number 2) number ∙ reads_back-two (length e.words / 4) (e.words ++ body) (omega (arith, is.words.fit)) in
    let profile : big_number 2 (drop at bytes) ≡ e.profile =
    ap (big_number 2) behind ∙ reads_back-two e.profile (drop 2 (extension_bytes (Some e) ++ body)) is.profile in
    let size : header_size bytes ≡ at + 4 + length e.words = omega (arith, header_size-extended bytes has, count, is.words.whole) in
    let words : slice_range bytes (at + 4) (header_size bytes) ≡ e.words =
    ap (take (header_size bytes - (at + 4))) rest ∙ take_at e.words body (header_size bytes - (at + 4)) (omega arith) in
    let read : Extension = record { profile = big_number 2 (drop at bytes); words = slice_range bytes (at + 4) (header_size bytes) } in
    record {
      size = omega (arith, size);
      same = cond-true (has_extension bytes) (Some read) None has
          ∙ ap Some (same_extension read e profile words);
    }

-- how payload and padding are read off the bytes behind the header
record BodyStands (bytes body : List ℕ) (count : ℕ) : Type 0 where
  pub payload : slice_range bytes (header_size bytes) (length bytes - padding_in bytes) ≡ body
  pub padding : padding_in bytes ≡ count
  pub counted : has_padding bytes ≡ true → IsCount bytes

body-last : (bytes payload padding : List ℕ) (count : ℕ) → IsPadding count padding → header_size bytes ≤ length bytes
    → drop (header_size bytes) bytes ≡ payload ++ padding → 1 ≤ count → last_byte bytes ≡ count
body-last bytes payload padding count is whole behind some =
    let at = header_size bytes in
    let left = ap (λ (l : List ℕ). length l) behind ∙ length-append payload padding in
    let size = length-drop at bytes in
    ap (slice_index bytes) (omega (arith, is.size))
    ∙ sym (get_or-drop at bytes (length payload + (count - 1)) 0)
    ∙ ap (λ l. slice_index l (length payload + (count - 1))) behind
    ∙ get_or-append-add payload padding (count - 1) 0
    ∙ is.last some

body-stands : (bytes payload padding : List ℕ) (count : ℕ) → IsPadding count padding → header_size bytes ≤ length bytes
    → has_padding bytes ≡ not (count == 0) → drop (header_size bytes) bytes ≡ payload ++ padding
    → BodyStands bytes payload count
body-stands bytes payload padding count is whole has behind =
    let at = header_size bytes in
    let left = ap (λ (l : List ℕ). length l) behind ∙ length-append payload padding in
    let size = length-drop at bytes in
    let counted : padding_in bytes ≡ count = ⊎_elim
    (λ (none : (count == 0) ≡ true). padding_in-none bytes (has ∙ ap not none) ∙ sym (eqb-true count 0 none))
    (λ (some : (count == 0) ≡ false). padding_in-some bytes (has ∙ ap not some)
    ∙ body-last bytes payload padding count is whole behind (let other = eqb-false count 0 some in omega arith))
    (cases_Bool (count == 0)) in
    record {
      payload = ap (take (length bytes - padding_in bytes - at)) behind
          ∙ take_at payload padding (length bytes - padding_in bytes - at) (omega (arith, is.size));
      padding = counted;
      counted = λ some.
          let other : not (count == 0) ≡ true = sym has ∙ some in
          let least : 1 ≤ count = ⊎_elim
          (λ (none : (count == 0) ≡ true). absurd (let wrong = rw none at other in cc))
          (λ (there : (count == 0) ≡ false). let e = eqb-false count 0 there in omega arith)
          (cases_Bool (count == 0)) in
          let last = body-last bytes payload padding count is whole behind least in
          record { some = omega arith; within = omega (arith, is.size) };
    }

-- a packet made of equal parts
same_packet : (p q : RtpValue) → p.marker ≡ q.marker → p.payload_type ≡ q.payload_type → p.seq ≡ q.seq
    → p.stamp ≡ q.stamp → p.ssrc ≡ q.ssrc → p.csrc ≡ q.csrc → p.extension ≡ q.extension
    → p.payload ≡ q.payload → p.padding ≡ q.padding → p ≡ q
same_packet p q marker payload_type seq stamp ssrc csrc extension payload padding i = record {
  marker = marker i;
  payload_type = payload_type i;
  seq = seq i;
  stamp = stamp i;
  ssrc = ssrc i;
  csrc = csrc i;
  extension = extension i;
  payload = payload i;
  padding = padding i;
}

-- the spelling says the packet, and no check fails in it
record Stands (p : RtpValue) (bytes : List ℕ) : Type 0 where
  pub passes : Passes bytes
  pub same : rtp_in bytes ≡ p

-- the same bytes, grouped from the right
grouped : RtpValue → List ℕ → List ℕ
grouped p padding = front_bytes p ++ (p.csrc ++ (extension_bytes p.extension ++ (p.payload ++ padding)))

grouped-stands : (p : RtpValue) (padding : List ℕ) → IsRtpValue p → IsPadding p.padding padding → Stands p (grouped p padding)
unfolding grouped
grouped-stands p padding is counted =
    let bytes = grouped p padding in
    let body = p.payload ++ padding in
    let behind = p.csrc ++ (extension_bytes p.extension ++ body) in
    let first = first-parts (bit (not (p.padding == 0))) (bit (is_some p.extension)) (length p.csrc / 4)
    (bit-most (not (p.padding == 0))) (bit-most (is_some p.extension)) is.csrc.fit in
    let has : has_padding bytes ≡ not (p.padding == 0) = ap (λ n. n == 1) first.padding ∙ bit-one (not (p.padding == 0)) in
    let extended : has_extension bytes ≡ is_some p.extension = ap (λ n. n == 1) first.extension ∙ bit-one (is_some p.extension) in
    let csrc_size : csrc_end bytes ≡ 12 + length p.csrc = omega (arith, first.count, is.csrc.whole) in
    let csrc : slice_range bytes 12 (csrc_end bytes) ≡ p.csrc =
    take_at p.csrc (extension_bytes p.extension ++ body) (csrc_end bytes - 12) (omega arith) in
    let rest : drop (csrc_end bytes) bytes ≡ extension_bytes p.extension ++ body =
    ap (λ n. drop n bytes) csrc_size ∙ sym (drop-drop (length p.csrc) 12 bytes)
    ∙ drop_at p.csrc (extension_bytes p.extension ++ body) (length p.csrc) refl in
    let extension = extension-stands bytes p.extension body is.extension extended rest in
    let last : drop (header_size bytes) bytes ≡ body =
    ap (λ n. drop n bytes) extension.size ∙ sym (drop-drop (length (extension_bytes p.extension)) (csrc_end bytes) bytes)
    ∙ ap (drop (length (extension_bytes p.extension))) rest
    ∙ drop_at (extension_bytes p.extension) body (length (extension_bytes p.extension)) refl in
    let size : length bytes ≡ 12 + (length p.csrc + (length (extension_bytes p.extension) + length body)) =
    omega (arith, length-append p.csrc (extension_bytes p.extension ++ body), length-append (extension_bytes p.extension) body) in
    let whole : header_size bytes ≤ length bytes = omega (arith, extension.size) in
    let stands = body-stands bytes p.payload padding p.padding counted whole has last in
    record {
      passes = record {
        front = omega arith;
        version = first.version;
        header = whole;
        padding = stands.counted;
      };
      same = same_packet (rtp_in bytes) p
          (ap (λ n. n == 1) (second-marker p.marker p.payload_type is.payload_type) ∙ bit-one p.marker)
          (second-type p.marker p.payload_type is.payload_type)
          (reads_back-two p.seq (drop 4 bytes) is.seq)
          (reads_back-four p.stamp (drop 8 bytes) is.stamp)
          (reads_back-four p.ssrc (drop 12 bytes) is.ssrc)
          csrc extension.same stands.payload stands.padding;
    }

spelled-stands : (p : RtpValue) (bytes : List ℕ) → IsRtp p bytes → Stands p bytes
unfolding grouped
spelled-stands p bytes is =
    let same : bytes ≡ grouped p is.padding =
    is.spelled ∙ regroup (front_bytes p) p.csrc (extension_bytes p.extension) p.payload is.padding in
    subst (Stands p) (sym same) (grouped-stands p is.padding is.value is.counted)

pub spelled-read : (p : RtpValue) (bytes : List ℕ) → IsRtp p bytes → rtp_in bytes ≡ p
spelled-read p bytes is = (spelled-stands p bytes is).same

pub spelled-passes : (p : RtpValue) (bytes : List ℕ) → IsRtp p bytes → rtp_fault bytes ≡ NoFaultFound
spelled-passes p bytes is = none-Passes bytes (spelled-stands p bytes is).passes

pub spelled-unique : (p q : RtpValue) (bytes : List ℕ) → IsRtp p bytes → IsRtp q bytes → p ≡ q
spelled-unique p q bytes is other = sym (spelled-read p bytes is) ∙ spelled-read q bytes other
