-- What holds of bytes exactly where no check fails.
use Rattle.std.proofs.Common.{◌≡◌, ℕ, ◌+◌, ◌*◌, ◌≤◌, ◌⊎◌, Bool, true, false, not, ◌==◌, ◌&&◌, ◌||◌, nat_lt, if◌then◌else◌, List, length, Option, None, Some, refl, ⊎_elim, inl, inr, arith}
use Rattle.std.proofs.lemmas.Bool.{ltb-false, eqb-true, eqb-false, le-ltb, eq-eqb, ne_eqb, or_parts, or_from, and_left, and_right, and_cases, cases_Bool, cond-true, cond-false}
use Rattle.rtp_packet.specs.RtpFault.{version_in, has_padding, has_extension, csrc_end, extension_words, header_size, body_size, last_byte, is_bad_padding, rtp_fault}
use Rattle.rtp_packet.specs.declared.fault.RtpFault.{RtpFault}
use Rattle.rtp_packet.specs.declared.fault.RtpFault.TheVariants.{Short, Version, Csrc, Extension, Padding}

-- a good count of padding bytes
pub record IsCount (bytes : List ℕ) : Type 0 where
  pub some : 1 ≤ last_byte bytes
  pub within : last_byte bytes ≤ body_size bytes

-- what the checks ask
pub record Passes (bytes : List ℕ) : Type 0 where
  pub front : 12 ≤ length bytes
  pub version : version_in bytes ≡ 2
  pub header : header_size bytes ≤ length bytes
  pub padding : has_padding bytes ≡ true → IsCount bytes

-- the size of the header

pub header_size-plain : (bytes : List ℕ) → has_extension bytes ≡ false → header_size bytes ≡ csrc_end bytes
header_size-plain bytes none = cond-false (has_extension bytes) _ _ none

pub header_size-extended : (bytes : List ℕ) → has_extension bytes ≡ true
    → header_size bytes ≡ csrc_end bytes + 4 + 4 * extension_words bytes
header_size-extended bytes some = cond-true (has_extension bytes) _ _ some

pub csrc-in-header : (bytes : List ℕ) → csrc_end bytes ≤ header_size bytes
csrc-in-header bytes = ⊎_elim
    (λ some. let e = header_size-extended bytes some in omega arith)
    (λ none. let e = header_size-plain bytes none in omega arith)
    (cases_Bool (has_extension bytes))

-- from no fault to what the checks ask

passed : (bad : Bool) (fault : RtpFault) (rest : Option RtpFault)
    → (if bad then Some fault else rest) ≡ None → (bad ≡ false) × (rest ≡ None)
passed true fault rest e = cc
passed false fault rest e = (refl, e)

not_wrong : (a : ℕ) → not (a == 2) ≡ false → a ≡ 2
not_wrong a e = ⊎_elim
    (λ same. eqb-true a 2 same)
    (λ (other : (a == 2) ≡ false). let wrong = rw other at e in cc)
    (cases_Bool (a == 2))

good_count : (bytes : List ℕ) → is_bad_padding bytes ≡ false → IsCount bytes
good_count bytes good =
    let (left, size) = or_parts ((body_size bytes == 0) || (last_byte bytes == 0)) (nat_lt (body_size bytes) (last_byte bytes)) good in
    let (some, count) = or_parts (body_size bytes == 0) (last_byte bytes == 0) left in
    record {
      some = let other = eqb-false (last_byte bytes) 0 count in omega arith;
      within = ltb-false (body_size bytes) (last_byte bytes) size;
    }

pub Passes-none : (bytes : List ℕ) → rtp_fault bytes ≡ None → Passes bytes
unfolding rtp_fault
Passes-none bytes e =
    let (short, behind_short) = passed (nat_lt (length bytes) 12) Short _ e in
    let (version, behind_version) = passed (not (version_in bytes == 2)) Version _ behind_short in
    let (csrc, behind_csrc) = passed (nat_lt (length bytes) (csrc_end bytes)) Csrc _ behind_version in
    let (extension, behind_extension) = passed (nat_lt (length bytes) (header_size bytes)) Extension _ behind_csrc in
    let (padding, end) = passed (has_padding bytes && is_bad_padding bytes) Padding _ behind_extension in
    record {
      front = ltb-false (length bytes) 12 short;
      version = not_wrong (version_in bytes) version;
      header = ltb-false (length bytes) (header_size bytes) extension;
      padding = λ has. ⊎_elim
          (λ (none : has_padding bytes ≡ false). absurd (let wrong = rw has at none in cc))
          (good_count bytes)
          (and_cases (has_padding bytes) (is_bad_padding bytes) padding);
    }

-- and back

bad-none : (bytes : List ℕ) → Passes bytes → (has_padding bytes ≡ true) ⊎ (has_padding bytes ≡ false)
    → (has_padding bytes && is_bad_padding bytes) ≡ false
bad-none bytes is (inl has) =
    let count = is.padding has in
    let some = count.some in
    let within = count.within in
    and_right (has_padding bytes) (is_bad_padding bytes)
    (or_from ((body_size bytes == 0) || (last_byte bytes == 0)) (nat_lt (body_size bytes) (last_byte bytes))
    (or_from (body_size bytes == 0) (last_byte bytes == 0)
    (ne_eqb (body_size bytes) 0 (λ none. omega arith)) (ne_eqb (last_byte bytes) 0 (λ none. omega arith)))
    (le-ltb (body_size bytes) (last_byte bytes) within))
bad-none bytes is (inr none) = and_left (has_padding bytes) (is_bad_padding bytes) none

pub none-Passes : (bytes : List ℕ) → Passes bytes → rtp_fault bytes ≡ None
unfolding rtp_fault
none-Passes bytes is =
    let csrc : csrc_end bytes ≤ length bytes = omega (arith, csrc-in-header bytes, is.header) in
    rw (
      le-ltb (length bytes) 12 is.front,
      eq-eqb (version_in bytes) 2 is.version,
      le-ltb (length bytes) (csrc_end bytes) csrc,
      le-ltb (length bytes) (header_size bytes) is.header,
      bad-none bytes is (cases_Bool (has_padding bytes)),
    ) refl
