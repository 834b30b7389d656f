-- Bytes in which no check fails.
use Rattle.std.proofs.Common.{◌≡◌, ◌≢◌, ℕ, ◌+◌, ◌≤◌, Bool, true, false, not, ◌==◌, ◌&&◌, ◌||◌, nat_lt, nat_le, if◌then◌else◌, List, length, Option, None, Some, refl, ⊎_elim, ◌⊎◌, inl, inr, arith}
use Rattle.std.specs.Option.{option_or}
use Rattle.std.proofs.lemmas.Bool.{ltb-false, leb-true, eqb-true, eqb-false, le-ltb, le-leb, eq-eqb, ne_eqb, or_parts, or_from, and_left, and_right, and_cases, not-false, not_from_true, cases_eq}
use Rattle.opus_head.specs.ChannelCount.{is_channel_count}
use Rattle.opus_head.specs.HeadValue.{IsStreamCount}
use Rattle.opus_head.specs.HeadFault.{version_in, channels_in, family_in, streams_in, coupled_in, decoded_in, mapping_size, head_size, checked, magic_len, magic_fault, front_fault, known_mapping, mapping_fault, table_fault, end_fault, head_fault}
use Rattle.opus_head.specs.declared.fault.HeadFault.{HeadFault}
use Rattle.opus_head.specs.declared.fault.HeadFault.TheVariants.{Magic, Cut, Version, Channels, Streams, Coupled, MapByte, Extra}

-- what the checks ask
pub record NoFault (bytes : List ℕ) : Type 0 where
  pub begins : magic_len bytes ≡ 8
  pub whole : head_size bytes ≤ length bytes
  pub version : version_in bytes ≤ 15
  pub some : 1 ≤ channels_in bytes
  pub count : is_channel_count (family_in bytes) (channels_in bytes) ≡ true
  pub counted : family_in bytes ≢ 0 → IsStreamCount (streams_in bytes) (coupled_in bytes)
  pub known : family_in bytes ≢ 0 → family_in bytes ≢ 3 → channels_in bytes ≤ known_mapping bytes
  pub plain : version_in bytes ≡ 1 → length bytes ≤ head_size bytes

-- one check after another

or-none : (first later : Option HeadFault) → option_or first later ≡ None → (first ≡ None) × (later ≡ None)
or-none None later e = (refl, e)
or-none (Some fault) later e = cc

passed : (whole bad : Bool) (fault cut : HeadFault)
    → (if whole then (if bad then Some fault else None) else Some cut) ≡ None
    → (whole ≡ true) × (bad ≡ false)
passed true true fault cut e = cc
passed true false fault cut e = (refl, refl)
passed false bad fault cut e = cc

checked-none : (bytes : List ℕ) (size : ℕ) (bad : Bool) (fault : HeadFault)
    → checked bytes size bad fault ≡ None → (size ≤ length bytes) × (bad ≡ false)
checked-none bytes size bad fault e =
    let (whole, good) = passed (nat_le size (length bytes)) bad fault (Cut (length bytes)) e in
    (leb-true size (length bytes) whole, good)

none-checked : (bytes : List ℕ) (size : ℕ) (bad : Bool) (fault : HeadFault)
    → size ≤ length bytes → bad ≡ false → checked bytes size bad fault ≡ None
none-checked bytes size bad fault whole good = rw (le-leb size (length bytes) whole, good) refl

-- the sizes
pub head_size-plain : (bytes : List ℕ) → family_in bytes ≡ 0 → head_size bytes ≡ 19
head_size-plain bytes none = rw (eq-eqb (family_in bytes) 0 none) refl

pub head_size-table : (bytes : List ℕ) → family_in bytes ≢ 0 → head_size bytes ≡ 21 + mapping_size bytes
head_size-table bytes some = rw (ne_eqb (family_in bytes) 0 some) refl

pub mapping_size-map : (bytes : List ℕ) → family_in bytes ≢ 3 → mapping_size bytes ≡ channels_in bytes
mapping_size-map bytes no_matrix = rw (ne_eqb (family_in bytes) 3 no_matrix) refl

-- from no fault to what the checks ask

magic-none : (same more : Bool) (place cut : HeadFault)
    → (if same then None else if more then Some place else Some cut) ≡ None → same ≡ true
magic-none true more place cut e = refl
magic-none false true place cut e = cc
magic-none false false place cut e = cc

pub table-none : (bytes : List ℕ) → table_fault bytes ≡ None → family_in bytes ≢ 0
    → IsStreamCount (streams_in bytes) (coupled_in bytes) × (mapping_fault bytes ≡ None)
table-none bytes e some =
    let family = ne_eqb (family_in bytes) 0 some in
    let whole = rw family at e in
    let (streams, later) = or-none (checked bytes 20 (streams_in bytes == 0) Streams) _ whole in
    let (coupled, mapping) = or-none
    (checked bytes 21 (nat_lt (streams_in bytes) (coupled_in bytes) || nat_lt 255 (decoded_in bytes)) Coupled)
    (mapping_fault bytes) later in
    let none_wrong = checked-none bytes 20 (streams_in bytes == 0) Streams streams in
    let (within, most) = or_parts (nat_lt (streams_in bytes) (coupled_in bytes)) (nat_lt 255 (decoded_in bytes))
    (checked-none bytes 21 (nat_lt (streams_in bytes) (coupled_in bytes) || nat_lt 255 (decoded_in bytes)) Coupled coupled).1 in (
      record {
        some = let other = eqb-false (streams_in bytes) 0 none_wrong.1 in omega arith;
        within = ltb-false (streams_in bytes) (coupled_in bytes) within;
        most = ltb-false 255 (decoded_in bytes) most;
      },
      mapping,
    )

mapping-none : (bytes : List ℕ) → mapping_fault bytes ≡ None → family_in bytes ≢ 3
    → channels_in bytes ≤ known_mapping bytes
mapping-none bytes e no_matrix =
    let whole = rw (ne_eqb (family_in bytes) 3 no_matrix) at e in
    ltb-false (known_mapping bytes) (channels_in bytes)
    (checked-none bytes (21 + channels_in bytes) (nat_lt (known_mapping bytes) (channels_in bytes)) (MapByte (known_mapping bytes)) whole).1

pub front-count : (bytes : List ℕ) → front_fault bytes ≡ None
    → is_channel_count (family_in bytes) (channels_in bytes) ≡ true
front-count bytes e =
    let (version, behind_version) = or-none (checked bytes 9 (nat_lt 15 (version_in bytes)) Version) _ e in
    let (some, count) = or-none (checked bytes 10 (channels_in bytes == 0) Channels) _ behind_version in
    let bad = checked-none bytes 19 (not (is_channel_count (family_in bytes) (channels_in bytes))) Channels count in
    not-false (is_channel_count (family_in bytes) (channels_in bytes)) bad.1

pub NoFault-none : (bytes : List ℕ) → head_fault bytes ≡ None → NoFault bytes
unfolding head_fault
NoFault-none bytes e =
    let (magic, behind_magic) = or-none (magic_fault bytes) _ e in
    let (front, behind_front) = or-none (front_fault bytes) _ behind_magic in
    let (table, end) = or-none (table_fault bytes) (end_fault bytes) behind_front in
    let (version, behind_version) = or-none (checked bytes 9 (nat_lt 15 (version_in bytes)) Version) _ front in
    let (some, count) = or-none (checked bytes 10 (channels_in bytes == 0) Channels) _ behind_version in
    let bad_count = checked-none bytes 19 (not (is_channel_count (family_in bytes) (channels_in bytes))) Channels count in
    let more = (version_in bytes == 1) && nat_lt (head_size bytes) (length bytes) in
    let ended = checked-none bytes (head_size bytes) more Extra end in
    record {
      begins = eqb-true (magic_len bytes) 8 (magic-none (magic_len bytes == 8) (nat_lt (magic_len bytes) (length bytes)) (Magic (magic_len bytes)) (Cut (length bytes)) magic);
      whole = ended.0;
      version = ltb-false 15 (version_in bytes) (checked-none bytes 9 (nat_lt 15 (version_in bytes)) Version version).1;
      some = let other = eqb-false (channels_in bytes) 0 (checked-none bytes 10 (channels_in bytes == 0) Channels some).1 in omega arith;
      count = not-false (is_channel_count (family_in bytes) (channels_in bytes)) bad_count.1;
      counted = λ is. (table-none bytes table is).0;
      known = λ is no_matrix. mapping-none bytes (table-none bytes table is).1 no_matrix;
      plain = λ is. ⊎_elim
          (λ other. absurd (eqb-false (version_in bytes) 1 other is))
          (λ none. ltb-false (head_size bytes) (length bytes) none)
          (and_cases (version_in bytes == 1) (nat_lt (head_size bytes) (length bytes)) ended.1);
    }

-- and back

none-mapping : (bytes : List ℕ) → NoFault bytes → family_in bytes ≢ 0 → 21 + mapping_size bytes ≤ length bytes
    → (family_in bytes ≡ 3) ⊎ (family_in bytes ≢ 3) → mapping_fault bytes ≡ None
none-mapping bytes is some size (inl matrix) = rw (eq-eqb (family_in bytes) 3 matrix) refl
none-mapping bytes is some size (inr no_matrix) =
    let mapping = mapping_size-map bytes no_matrix in
    let passes = none-checked bytes (21 + channels_in bytes) (nat_lt (known_mapping bytes) (channels_in bytes)) (MapByte (known_mapping bytes))
    (omega arith) (le-ltb (known_mapping bytes) (channels_in bytes) (is.known some no_matrix)) in
    rw (ne_eqb (family_in bytes) 3 no_matrix, passes) refl

no_extra : (bytes : List ℕ) → NoFault bytes → (version_in bytes ≡ 1) ⊎ (version_in bytes ≢ 1)
    → ((version_in bytes == 1) && nat_lt (head_size bytes) (length bytes)) ≡ false
no_extra bytes is (inl one) =
    and_right (version_in bytes == 1) (nat_lt (head_size bytes) (length bytes)) (le-ltb (head_size bytes) (length bytes) (is.plain one))
no_extra bytes is (inr other) =
    and_left (version_in bytes == 1) (nat_lt (head_size bytes) (length bytes)) (ne_eqb (version_in bytes) 1 other)

least : (bytes : List ℕ) → (family_in bytes ≡ 0) ⊎ (family_in bytes ≢ 0) → 19 ≤ head_size bytes
least bytes (inl plain) = let e = head_size-plain bytes plain in omega arith
least bytes (inr some) = let e = head_size-table bytes some in omega arith

pub least_size : (bytes : List ℕ) → NoFault bytes → 19 ≤ length bytes
least_size bytes is = let front = least bytes (cases_eq (family_in bytes) 0) in omega (arith, is.whole)

none-table : (bytes : List ℕ) → NoFault bytes → (family_in bytes ≡ 0) ⊎ (family_in bytes ≢ 0)
    → table_fault bytes ≡ None
none-table bytes is (inl plain) = rw (eq-eqb (family_in bytes) 0 plain) refl
none-table bytes is (inr some) =
    let size : 21 + mapping_size bytes ≤ length bytes = let e = head_size-table bytes some in omega (arith, is.whole) in
    let n = is.counted some in
    let streams = none-checked bytes 20 (streams_in bytes == 0) Streams (omega arith) (ne_eqb (streams_in bytes) 0 (λ zero. omega (arith, n.some))) in
    let coupled = none-checked bytes 21 (nat_lt (streams_in bytes) (coupled_in bytes) || nat_lt 255 (decoded_in bytes)) Coupled (omega arith)
    (or_from (nat_lt (streams_in bytes) (coupled_in bytes)) (nat_lt 255 (decoded_in bytes))
    (le-ltb (streams_in bytes) (coupled_in bytes) n.within) (le-ltb 255 (decoded_in bytes) n.most)) in
    rw (ne_eqb (family_in bytes) 0 some, streams, coupled) (none-mapping bytes is some size (cases_eq (family_in bytes) 3))

pub none-NoFault : (bytes : List ℕ) → NoFault bytes → head_fault bytes ≡ None
unfolding head_fault
none-NoFault bytes is =
    let whole = least_size bytes is in
    let version = none-checked bytes 9 (nat_lt 15 (version_in bytes)) Version (omega arith) (le-ltb 15 (version_in bytes) is.version) in
    let some = none-checked bytes 10 (channels_in bytes == 0) Channels (omega arith) (ne_eqb (channels_in bytes) 0 (λ zero. omega (arith, is.some))) in
    let count = none-checked bytes 19 (not (is_channel_count (family_in bytes) (channels_in bytes))) Channels whole (not_from_true (is_channel_count (family_in bytes) (channels_in bytes)) is.count) in
    let table = none-table bytes is (cases_eq (family_in bytes) 0) in
    let end = none-checked bytes (head_size bytes) ((version_in bytes == 1) && nat_lt (head_size bytes) (length bytes)) Extra is.whole (no_extra bytes is (cases_eq (version_in bytes) 1)) in
    rw (eq-eqb (magic_len bytes) 8 is.begins, version, some, count, table, end) refl
