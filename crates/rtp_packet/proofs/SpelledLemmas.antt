-- Bytes in which no check fails are the spelling of what they say.
use Rattle.std.proofs.Common.{◌≡◌, ℕ, ◌+◌, ◌*◌, ◌-◌, ◌/◌, ◌%◌, ◌^◌, ◌≤◌, ◌<◌, true, false, not, ◌==◌, List, ◌∷◌, ◌++◌, length, slice_index, drop, length-take, length-drop, append_assoc, Some, None, is_some, sym, ap, ◌∙◌, subst, ⊎_elim, arith}
use Rattle.std.specs.Int.{w16, w32, to_be_bytes}
use Rattle.std.specs.List.{slice_range}
use Rattle.std.proofs.lemmas.List.{get_or-drop}
use Rattle.std.proofs.lemmas.List.Folds.{drop_split}
use Rattle.std.proofs.lemmas.Bool.{eqb-true, eqb-false, eq-eqb, ne_eqb, cases_Bool, cond-true, cond-false}
use Rattle.byteorder.specs.Endian.{big_number}
use Rattle.opus_io.proofs.BytesLemmas.{AreBytes-at, AreBytes-drop, drop-byte}
use Rattle.rtp_packet.specs.RtpValue.{Extension, IsExtension, AreBytes}
use Rattle.rtp_packet.specs.RtpBytes.{bit, first_byte, front_bytes, extension_bytes, IsPadding, IsRtp}
use Rattle.rtp_packet.specs.RtpFault.{has_padding, has_extension, csrc_count, csrc_end, extension_words, header_size, last_byte, padding_in}
use Rattle.rtp_packet.specs.Checks.{extension_in, rtp_in}
use Rattle.rtp_packet.proofs.NumberLemmas.{drop-two, drop-four, big_number-two, big_number-four}
use Rattle.rtp_packet.proofs.CheckLemmas.{Passes, header_size-plain, header_size-extended, csrc-in-header}

-- the bits of the first byte

bit-of : (n : ℕ) → bit (n % 2 == 1) ≡ n % 2
bit-of n = ⊎_elim
    (λ (one : (n % 2 == 1) ≡ true). rw one (sym (eqb-true (n % 2) 1 one)))
    (λ (other : (n % 2 == 1) ≡ false). rw other (let e = eqb-false (n % 2) 1 other in omega arith))
    (cases_Bool (n % 2 == 1))

pub padding_in-none : (bytes : List ℕ) → has_padding bytes ≡ false → padding_in bytes ≡ 0
padding_in-none bytes none = cond-false (has_padding bytes) _ _ none

pub padding_in-some : (bytes : List ℕ) → has_padding bytes ≡ true → padding_in bytes ≡ last_byte bytes
padding_in-some bytes some = cond-true (has_padding bytes) _ _ some

padding-bit : (bytes : List ℕ) → Passes bytes → not (padding_in bytes == 0) ≡ has_padding bytes
padding-bit bytes is = ⊎_elim
    (λ (some : has_padding bytes ≡ true).
    let count = is.padding some in
    let e = padding_in-some bytes some in
    ap not (ne_eqb (padding_in bytes) 0 (λ none. omega (arith, count.some))) ∙ sym some)
    (λ (none : has_padding bytes ≡ false). ap not (eq-eqb (padding_in bytes) 0 (padding_in-none bytes none)) ∙ sym none)
    (cases_Bool (has_padding bytes))

extension-bit : (bytes : List ℕ) → is_some (extension_in bytes) ≡ has_extension bytes
extension-bit bytes = ⊎_elim
    (λ (some : has_extension bytes ≡ true). ap is_some (cond-true (has_extension bytes) _ None some) ∙ sym some)
    (λ (none : has_extension bytes ≡ false). ap is_some (cond-false (has_extension bytes) _ None none) ∙ sym none)
    (cases_Bool (has_extension bytes))

length-csrc : (bytes : List ℕ) → Passes bytes → length (slice_range bytes 12 (csrc_end bytes)) ≡ 4 * csrc_count bytes
length-csrc bytes is =
    omega (arith, length-take (csrc_end bytes - 12) (drop 12 bytes), length-drop 12 bytes, csrc-in-header bytes, is.header)

first-is : (bytes : List ℕ) → Passes bytes → AreBytes bytes → slice_index bytes 0 ≡ first_byte (rtp_in bytes)
first-is bytes is are =
    let padding = ap bit (padding-bit bytes is) ∙ bit-of (slice_index bytes 0 / 32) in
    let extension = ap bit (extension-bit bytes) ∙ bit-of (slice_index bytes 0 / 16) in
    omega (arith, padding, extension, length-csrc bytes is, is.version, AreBytes-at bytes are 0)

second-is : (b : ℕ) → b < 2 ^ 8 → b ≡ 128 * bit (b / 128 == 1) + b % 128
second-is b fits = ⊎_elim
    (λ (one : (b / 128 == 1) ≡ true). rw one (let e = eqb-true (b / 128) 1 one in omega arith))
    (λ (other : (b / 128 == 1) ≡ false). rw other (let e = eqb-false (b / 128) 1 other in omega arith))
    (cases_Bool (b / 128 == 1))

front-is : (bytes : List ℕ) → Passes bytes → AreBytes bytes → bytes ≡ front_bytes (rtp_in bytes) ++ drop 12 bytes
front-is bytes is are =
    let p = rtp_in bytes in
    let front = is.front in
    let ssrc = drop-four 8 bytes (omega arith) are in
    let stamp = drop-four 4 bytes (omega arith) are ∙ ap (λ l. to_be_bytes w32 p.stamp ++ l) ssrc in
    let seq = drop-two 2 bytes (omega arith) are ∙ ap (λ l. to_be_bytes w16 p.seq ++ l) stamp in
    let second = drop-byte 1 bytes (omega arith)
    ∙ ap (λ b. b ∷ drop 2 bytes) (second-is (slice_index bytes 1) (AreBytes-at bytes are 1)) ∙ ap (λ l. (128 * bit p.marker + p.payload_type) ∷ l) seq in
    drop-byte 0 bytes (omega arith) ∙ ap (λ b. b ∷ drop 1 bytes) (first-is bytes is are) ∙ ap (λ l. first_byte p ∷ l) second

-- the extension and what follows it

pub extension_in-none : (bytes : List ℕ) → has_extension bytes ≡ false → extension_in bytes ≡ None
extension_in-none bytes none = cond-false (has_extension bytes) _ None none

record Behind (bytes : List ℕ) : Type 0 where
  pub fits : IsExtension (extension_in bytes)
  pub spelled : drop (csrc_end bytes) bytes ≡ extension_bytes (extension_in bytes) ++ drop (header_size bytes) bytes

behind-extended : (bytes : List ℕ) → Passes bytes → AreBytes bytes → has_extension bytes ≡ true → Behind bytes
behind-extended bytes is are some =
    let at = csrc_end bytes in
    let end = header_size bytes in
    let size = header_size-extended bytes some in
    let header = is.header in
    let words = slice_range bytes (at + 4) end in
    let count : length words ≡ 4 * extension_words bytes =
    omega (arith, length-take (end - (at + 4)) (drop (at + 4) bytes), length-drop (at + 4) bytes) in
    let e : Extension = record { profile = big_number 2 (drop at bytes); words = words } in
    let same : extension_in bytes ≡ Some e = cond-true (has_extension bytes) (Some e) None some in
    let most = big_number-two (drop (at + 2) bytes) (AreBytes-drop (at + 2) bytes are) in
    let number : extension_words bytes ≡ length words / 4 = omega (arith, count) in
    let behind : drop (at + 2) bytes ≡ to_be_bytes w16 (length words / 4) ++ words ++ drop end bytes =
    drop-two (at + 2) bytes (omega arith) are
    ∙ ap (λ n. to_be_bytes w16 n ++ drop (at + 2 + 2) bytes) number
    ∙ ap (λ n. to_be_bytes w16 (length words / 4) ++ drop n bytes) (omega arith)
    ∙ ap (λ l. to_be_bytes w16 (length words / 4) ++ l) (drop_split bytes (at + 4) end (omega arith)) in
    record {
      fits = subst IsExtension (sym same) (record {
        profile = big_number-two (drop at bytes) (AreBytes-drop at bytes are);
        words = record { whole = omega (arith, count); fit = omega (arith, count) };
      });
      spelled = drop-two at bytes (omega arith) are
          ∙ ap (λ l. to_be_bytes w16 e.profile ++ l) behind
          ∙ ap (λ x. extension_bytes x ++ drop end bytes) (sym same);
    }

behind-plain : (bytes : List ℕ) → has_extension bytes ≡ false → Behind bytes
behind-plain bytes none = record {
  fits = subst IsExtension (sym (extension_in-none bytes none)) tt;
  spelled = ap (λ n. drop n bytes) (sym (header_size-plain bytes none))
      ∙ ap (λ x. extension_bytes x ++ drop (header_size bytes) bytes) (sym (extension_in-none bytes none));
}

behind-is : (bytes : List ℕ) → Passes bytes → AreBytes bytes → Behind bytes
behind-is bytes is are = ⊎_elim (behind-extended bytes is are) (behind-plain bytes) (cases_Bool (has_extension bytes))

-- the padding

padding-fits : (bytes : List ℕ) → Passes bytes → header_size bytes + padding_in bytes ≤ length bytes
padding-fits bytes is = ⊎_elim
    (λ some. let e = padding_in-some bytes some in omega (arith, (is.padding some).within, is.header))
    (λ none. let e = padding_in-none bytes none in omega (arith, is.header))
    (cases_Bool (has_padding bytes))

last-is : (bytes : List ℕ) → Passes bytes → 1 ≤ padding_in bytes → last_byte bytes ≡ padding_in bytes
last-is bytes is some = ⊎_elim
    (λ has. sym (padding_in-some bytes has))
    (λ none. let e = padding_in-none bytes none in absurd (omega arith))
    (cases_Bool (has_padding bytes))

counted : (bytes : List ℕ) → Passes bytes → IsPadding (padding_in bytes) (drop (length bytes - padding_in bytes) bytes)
counted bytes is =
    let at = length bytes - padding_in bytes in
    let fits = padding-fits bytes is in
    record {
      size = omega (arith, length-drop at bytes);
      last = λ some. get_or-drop at bytes (padding_in bytes - 1) 0
          ∙ ap (slice_index bytes) (omega arith) ∙ last-is bytes is some;
    }

padding_in-byte : (bytes : List ℕ) → AreBytes bytes → padding_in bytes < 2 ^ 8
padding_in-byte bytes are = ⊎_elim
    (λ some. let e = padding_in-some bytes some in omega (arith, AreBytes-at bytes are (length bytes - 1)))
    (λ none. let e = padding_in-none bytes none in omega arith)
    (cases_Bool (has_padding bytes))

pub regroup : (front csrc extension payload padding : List ℕ)
    → front ++ csrc ++ extension ++ payload ++ padding ≡ front ++ (csrc ++ (extension ++ (payload ++ padding)))
regroup front csrc extension payload padding = simp append_assoc

pub rtp_in-spelled : (bytes : List ℕ) → Passes bytes → AreBytes bytes → IsRtp (rtp_in bytes) bytes
rtp_in-spelled bytes is are =
    let p = rtp_in bytes in
    let at = length bytes - padding_in bytes in
    let rest = behind-is bytes is are in
    let fits = padding-fits bytes is in
    let order = csrc-in-header bytes in
    let csrc = length-csrc bytes is in
    let body : drop (header_size bytes) bytes ≡ p.payload ++ drop at bytes = drop_split bytes (header_size bytes) at (omega arith) in
    record {
      value = record {
        payload_type = omega arith;
        seq = big_number-two (drop 2 bytes) (AreBytes-drop 2 bytes are);
        stamp = big_number-four (drop 4 bytes) (AreBytes-drop 4 bytes are);
        ssrc = big_number-four (drop 8 bytes) (AreBytes-drop 8 bytes are);
        csrc = record { whole = omega (arith, csrc); fit = omega (arith, csrc) };
        extension = rest.fits;
        padding = padding_in-byte bytes are;
      };
      padding = drop at bytes;
      counted = counted bytes is;
      spelled = front-is bytes is are
          ∙ ap (λ l. front_bytes p ++ l) (drop_split bytes 12 (csrc_end bytes) (omega arith)
          ∙ ap (λ l. p.csrc ++ l) (rest.spelled ∙ ap (λ l. extension_bytes p.extension ++ l) body))
          ∙ sym (regroup (front_bytes p) p.csrc (extension_bytes p.extension) p.payload (drop at bytes));
    }
