-- Bytes behind the largest head change no fault.
use Rattle.std.proofs.Common.{◌≡◌, ◌≢◌, ℕ, ◌+◌, ◌*◌, ◌-◌, ◌≤◌, ◌<◌, Bool, true, false, not, ◌==◌, nat_lt, nat_le, if◌then◌else◌, List, [], ◌∷◌, ◌++◌, length, take, drop, Option, None, Some, length-append, length-drop, append-nil, refl, ap, ◌∙◌, ⊎_elim, ◌⊎◌, inl, inr, arith}
use Rattle.std.specs.List.{list_any, list_all, prefix_len, slice_range, common_prefix_len}
use Rattle.std.specs.Option.{option_or}
use Rattle.std.proofs.Math.ListN.{get_or-append}
use Rattle.std.proofs.Math.Nat.{mul-le-mul}
use Rattle.std.proofs.lemmas.List.{take-append-le, drop-append-le}
use Rattle.std.proofs.lemmas.List.Sums.{common_prefix_len-le}
use Rattle.std.proofs.lemmas.Bool.{leb-true, eqb-true, lt-ltb, le-leb, eq-eqb, and_parts, or_cases, cases_eq, both_ways}
use Rattle.opus_io.proofs.BytesLemmas.{AreBytes-at}
use Rattle.opus_head.specs.ChannelCount.{is_channel_count, is_ambisonic_count, ambisonic_counts}
use Rattle.opus_head.specs.HeadValue.{AreBytes, is_map_byte}
use Rattle.opus_head.specs.HeadBytes.{magic}
use Rattle.opus_head.specs.HeadFault.{version_in, channels_in, family_in, streams_in, coupled_in, decoded_in, mapping_size, head_size, checked, magic_len, magic_fault, front_fault, known_mapping, mapping_fault, table_fault, end_fault, head_fault}
use Rattle.opus_head.specs.declared.fault.HeadFault.{HeadFault}
use Rattle.opus_head.specs.declared.fault.HeadFault.TheVariants.{Version, Channels}
use Rattle.opus_head.proofs.NoFaultLemmas.{head_size-plain, head_size-table, mapping_size-map, table-none, front-count}

-- an ambisonic family has at most 227 channels

listed-below : (c most : ℕ) (counts : List ℕ) → list_any (λ count. count == c) counts ≡ true
    → list_all (λ count. nat_le count most) counts ≡ true → c ≤ most
listed-below c most [] found all = absurd (both_ways false refl found)
listed-below c most (count ∷ counts) found all =
    let (first, rest) = and_parts (nat_le count most) (list_all (λ n. nat_le n most) counts) all in
    ⊎_elim
    (λ same. let e = eqb-true count c same in let below = leb-true count most first in omega arith)
    (λ later. listed-below c most counts later rest)
    (or_cases (count == c) (list_any (λ n. n == c) counts) found)

ambisonic-most : (c : ℕ) → is_ambisonic_count c ≡ true → c ≤ 227
ambisonic-most c found = listed-below c 227 ambisonic_counts found refl

matrix-most : (c : ℕ) → is_channel_count 3 c ≡ true → c ≤ 227
matrix-most c found = ambisonic-most c found

-- the first bytes are the same

front-append : (xs ys more : List ℕ) → length xs ≤ length ys
    → common_prefix_len (λ wanted found. wanted == found) xs (ys ++ more)
    ≡ common_prefix_len (λ wanted found. wanted == found) xs ys
front-append [] ys more within = refl
front-append (x ∷ xs) [] more within = absurd (omega arith)
front-append (x ∷ xs) (y ∷ ys) more within =
    ap (λ n. if x == y then 1 + n else 0) (front-append xs ys more (omega arith))

-- two lists of bytes of which the first is a front of the second, and holds all fields that stand at fixed places and
-- the mapping bytes
pub record SameFront (b c : List ℕ) : Type 0 where
  pub begins : magic_len c ≡ magic_len b
  pub version : version_in c ≡ version_in b
  pub channels : channels_in c ≡ channels_in b
  pub family : family_in c ≡ family_in b
  pub streams : streams_in c ≡ streams_in b
  pub coupled : coupled_in c ≡ coupled_in b
  pub mapping : slice_range c 21 (21 + channels_in b) ≡ slice_range b 21 (21 + channels_in b)
  pub long : 21 + channels_in b ≤ length b
  pub longer : length b ≤ length c

pub front-of : (b more : List ℕ) → AreBytes b → 115792 ≤ length b → SameFront b (b ++ more)
front-of b more are long =
    let count : channels_in b < 256 = AreBytes-at b are 9 in
    record {
      begins = front-append magic b more (omega arith);
      version = get_or-append b more 0 8 (omega arith);
      channels = get_or-append b more 0 9 (omega arith);
      family = get_or-append b more 0 18 (omega arith);
      streams = get_or-append b more 0 19 (omega arith);
      coupled = get_or-append b more 0 20 (omega arith);
      mapping = ap (take (21 + channels_in b - 21)) (drop-append-le 21 b more (omega arith))
          ∙ take-append-le (21 + channels_in b - 21) (drop 21 b) more (omega (arith, length-drop 21 b));
      long = omega arith;
      longer = omega (arith, length-append b more);
    }

-- the checks up to the table find the same

magic-same : (b c : List ℕ) → SameFront b c → magic_fault c ≡ magic_fault b
magic-same b c same =
    let few : magic_len b ≤ 8 = (common_prefix_len-le (λ wanted found. wanted == found) magic b).0 in
    let long = same.long in
    let longer = same.longer in
    rw (same.begins, lt-ltb (magic_len b) (length b) (omega arith), lt-ltb (magic_len b) (length c) (omega arith)) refl

checked-same : (b c : List ℕ) (size : ℕ) (bad : Bool) (fault : HeadFault) → size ≤ length b → length b ≤ length c
    → checked c size bad fault ≡ checked b size bad fault
checked-same b c size bad fault whole longer =
    rw (le-leb size (length b) whole, le-leb size (length c) (omega arith)) refl

front-same : (b c : List ℕ) → SameFront b c → front_fault c ≡ front_fault b
front-same b c same =
    let long = same.long in
    let version = ap (λ n. checked c 9 (nat_lt 15 n) Version) same.version
    ∙ checked-same b c 9 (nat_lt 15 (version_in b)) Version (omega arith) same.longer in
    let some = ap (λ n. checked c 10 (n == 0) Channels) same.channels
    ∙ checked-same b c 10 (channels_in b == 0) Channels (omega arith) same.longer in
    let count = ap (λ n. checked c 19 (not (is_channel_count n (channels_in c))) Channels) same.family
    ∙ ap (λ n. checked c 19 (not (is_channel_count (family_in b) n)) Channels) same.channels
    ∙ checked-same b c 19 (not (is_channel_count (family_in b) (channels_in b))) Channels (omega arith) same.longer in
    ap (λ fault. option_or fault (option_or (checked c 10 (channels_in c == 0) Channels)
    (checked c 19 (not (is_channel_count (family_in c) (channels_in c))) Channels))) version
    ∙ ap (λ fault. option_or (checked b 9 (nat_lt 15 (version_in b)) Version) (option_or fault
    (checked c 19 (not (is_channel_count (family_in c) (channels_in c))) Channels))) some
    ∙ ap (λ fault. option_or (checked b 9 (nat_lt 15 (version_in b)) Version)
    (option_or (checked b 10 (channels_in b == 0) Channels) fault)) count

known-same : (b c : List ℕ) → SameFront b c → known_mapping c ≡ known_mapping b
known-same b c same =
    ap (λ n. prefix_len (is_map_byte (decoded_in c)) (slice_range c 21 (21 + n))) same.channels
    ∙ ap (prefix_len (is_map_byte (decoded_in c))) same.mapping
    ∙ ap (λ n. prefix_len (is_map_byte (n + coupled_in c)) (slice_range b 21 (21 + channels_in b))) same.streams
    ∙ ap (λ n. prefix_len (is_map_byte (streams_in b + n)) (slice_range b 21 (21 + channels_in b))) same.coupled

mapping-same : (b c : List ℕ) → SameFront b c → mapping_fault c ≡ mapping_fault b
mapping-same b c same =
    let long = same.long in
    let longer = same.longer in
    rw (
      known-same b c same,
      same.channels,
      same.family,
      le-leb (21 + channels_in b) (length b) (omega arith),
      le-leb (21 + channels_in b) (length c) (omega arith),
    ) refl

table-same : (b c : List ℕ) → SameFront b c → table_fault c ≡ table_fault b
table-same b c same =
    let long = same.long in
    let longer = same.longer in
    rw (
      mapping-same b c same,
      same.streams,
      same.coupled,
      same.family,
      le-leb 20 (length b) (omega arith),
      le-leb 20 (length c) (omega arith),
      le-leb 21 (length b) (omega arith),
      le-leb 21 (length c) (omega arith),
    ) refl

-- a head whose table has no fault isn't longer than this

size-by : (b : List ℕ) → AreBytes b → front_fault b ≡ None → table_fault b ≡ None
    → (family_in b ≡ 0) ⊎ (family_in b ≢ 0) → (family_in b ≡ 3) ⊎ (family_in b ≢ 3) → head_size b ≤ 115791
size-by b are front table (inl plain) other = let e = head_size-plain b plain in omega arith
size-by b are front table (inr some) (inl matrix) =
    let whole = head_size-table b some in
    let factors : mapping_size b ≡ 2 * (decoded_in b * channels_in b) = rw (eq-eqb (family_in b) 3 matrix) refl in
    let counts = (table-none b table some).0 in
    let allowed = rw matrix at (front-count b front) in
    let most : decoded_in b * channels_in b ≤ 255 * 227 = mul-le-mul counts.most (matrix-most (channels_in b) allowed) in
    omega arith
size-by b are front table (inr some) (inr no_matrix) =
    let whole = head_size-table b some in
    let mapping = mapping_size-map b no_matrix in
    let count = AreBytes-at b are 9 in
    omega arith

pub head_size-same : (b c : List ℕ) → SameFront b c → head_size c ≡ head_size b
head_size-same b c same = rw (same.streams, same.coupled, same.channels, same.family) refl

end-same : (b c : List ℕ) → SameFront b c → length b < length c → head_size b < length b → end_fault c ≡ end_fault b
end-same b c same more whole =
    rw (
      head_size-same b c same,
      same.version,
      le-leb (head_size b) (length b) (omega arith),
      le-leb (head_size b) (length c) (omega arith),
      lt-ltb (head_size b) (length b) whole,
      lt-ltb (head_size b) (length c) (omega arith),
    ) refl

behind : (magic front table end end' : Option HeadFault) → (front ≡ None → table ≡ None → end ≡ end')
    → option_or magic (option_or front (option_or table end)) ≡ option_or magic (option_or front (option_or table end'))
behind None None None end end' same = same refl refl
behind None None (Some fault) end end' same = refl
behind None (Some fault) table end end' same = refl
behind (Some fault) front table end end' same = refl

head_fault-front : (b c : List ℕ) → SameFront b c → AreBytes b → 115792 ≤ length b → length b < length c
    → head_fault c ≡ head_fault b
unfolding head_fault
head_fault-front b c same are long more =
    ap (λ fault. option_or fault (option_or (front_fault c) (option_or (table_fault c) (end_fault c)))) (magic-same b c same)
    ∙ ap (λ fault. option_or (magic_fault b) (option_or fault (option_or (table_fault c) (end_fault c)))) (front-same b c same)
    ∙ ap (λ fault. option_or (magic_fault b) (option_or (front_fault b) (option_or fault (end_fault c)))) (table-same b c same)
    ∙ behind (magic_fault b) (front_fault b) (table_fault b) (end_fault c) (end_fault b)
    (λ front table. end-same b c same more
    (let size = size-by b are front table (cases_eq (family_in b) 0) (cases_eq (family_in b) 3) in omega arith))

pub head_fault-longer : (b more : List ℕ) → AreBytes b → 115792 ≤ length b
    → head_fault (b ++ more) ≡ head_fault b
head_fault-longer b [] are long = ap head_fault (append-nil b)
head_fault-longer b (x ∷ more) are long =
    head_fault-front b (b ++ x ∷ more) (front-of b (x ∷ more) are long) are long
    (omega (arith, length-append b (x ∷ more)))
