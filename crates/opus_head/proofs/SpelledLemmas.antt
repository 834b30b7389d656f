-- Bytes in which no check fails are the spelling of what they say.
use Rattle.std.proofs.Common.{◌≡◌, ◌≢◌, ℕ, ◌+◌, ◌*◌, ◌-◌, ◌≤◌, true, ◌==◌, List, [], ◌∷◌, ◌++◌, length, take, drop, length-take, length-drop, append_assoc, refl, sym, ap, ◌∙◌, subst, ⊎_elim, ◌⊎◌, inl, inr, arith}
use Rattle.std.specs.Int.{w16, w32, to_le_bytes, cast_signed, cast_unsigned}
use Rattle.std.specs.List.{slice_range, common_prefix_len}
use Rattle.std.proofs.Math.Facts.{sfits_to_z, Fits-of_lt}
use Rattle.std.proofs.lemmas.Int.{of_z-to_z}
use Rattle.std.proofs.lemmas.List.{take-append-drop, drop-drop, drop_all}
use Rattle.std.proofs.lemmas.Bool.{eqb-true, eq-eqb, ne_eqb, cases_eq, cases_Bool, cond-true, cond-false}
use Rattle.byteorder.specs.Endian.{little_number}
use Rattle.opus_io.proofs.BytesLemmas.{AreBytes-at, AreBytes-take, AreBytes-drop, drop-byte}
use Rattle.opus_head.specs.HeadValue.{AreBytes, is_map_byte, IsTable}
use Rattle.opus_head.specs.HeadBytes.{magic, table_bytes, front_bytes, IsOpusHead}
use Rattle.opus_head.specs.HeadFault.{channels_in, family_in, streams_in, coupled_in, decoded_in, mapping_size, head_size, magic_len}
use Rattle.opus_head.specs.HeadRead.{mapping_in, table_in, head_in}
use Rattle.opus_head.specs.declared.table.Table.{Table}
use Rattle.opus_head.specs.declared.table.Table.TheVariants.{None, Map, Matrix}
use Rattle.opus_head.proofs.MappingLemmas.{list_all-prefix}
use Rattle.opus_head.proofs.NoFaultLemmas.{NoFault, head_size-plain, head_size-table, mapping_size-map, least_size}
use Rattle.opus_head.proofs.NumberLemmas.{to_le_bytes-two, to_le_bytes-four, little_number-two, little_number-four}

-- parts of bytes are bytes

-- the first bytes, where they are all those of a list

front-same : (xs ys : List ℕ) → common_prefix_len (λ wanted found. wanted == found) xs ys ≡ length xs
    → take (length xs) ys ≡ xs
front-same [] ys e = refl
front-same (x ∷ xs) [] e = absurd (omega arith)
front-same (x ∷ xs) (y ∷ ys) e =
    ⊎_elim
    (λ (same : (x == y) ≡ true). let rest = rw same at e in
    let behind : take (length xs) ys ≡ xs = front-same xs ys (omega arith) in
    let first = eqb-true x y same in
    cc)
    (λ other. let rest = rw other at e in absurd (omega arith))
    (cases_Bool (x == y))

-- a byte, and a number, in front of what follows

drop-two : (n : ℕ) (xs : List ℕ) → n + 2 ≤ length xs → AreBytes xs
    → drop n xs ≡ to_le_bytes w16 (little_number 2 (drop n xs)) ++ drop (n + 2) xs
drop-two n xs within bytes =
    sym (take-append-drop 2 (drop n xs))
    ∙ ap (λ l. l ++ drop 2 (drop n xs)) (sym (to_le_bytes-two (drop n xs) (omega (arith, length-drop n xs)) (AreBytes-drop n xs bytes)))
    ∙ ap (λ l. to_le_bytes w16 (little_number 2 (drop n xs)) ++ l) (drop-drop 2 n xs)

drop-four : (n : ℕ) (xs : List ℕ) → n + 4 ≤ length xs → AreBytes xs
    → drop n xs ≡ to_le_bytes w32 (little_number 4 (drop n xs)) ++ drop (n + 4) xs
drop-four n xs within bytes =
    sym (take-append-drop 4 (drop n xs))
    ∙ ap (λ l. l ++ drop 4 (drop n xs)) (sym (to_le_bytes-four (drop n xs) (omega (arith, length-drop n xs)) (AreBytes-drop n xs bytes)))
    ∙ ap (λ l. to_le_bytes w32 (little_number 4 (drop n xs)) ++ l) (drop-drop 4 n xs)

-- two bytes as a signed number
drop-signed : (n : ℕ) (xs : List ℕ) → n + 2 ≤ length xs → AreBytes xs
    → drop n xs ≡ to_le_bytes w16 (cast_unsigned w16 (cast_signed w16 (little_number 2 (drop n xs)))) ++ drop (n + 2) xs
drop-signed n xs within bytes =
    drop-two n xs within bytes
    ∙ ap (λ m. to_le_bytes w16 m ++ drop (n + 2) xs)
    (sym (of_z-to_z w16 (little_number 2 (drop n xs)) (little_number-two (drop n xs) (AreBytes-drop n xs bytes))))

front-is : (bytes : List ℕ) → 19 ≤ length bytes → AreBytes bytes → magic_len bytes ≡ 8
    → bytes ≡ front_bytes (head_in bytes) ++ drop 19 bytes
front-is bytes whole are begins =
    let h = head_in bytes in
    let family = drop-byte 18 bytes (omega arith) in
    let gain = drop-signed 16 bytes (omega arith) are ∙ ap (λ l. to_le_bytes w16 (cast_unsigned w16 h.gain) ++ l) family in
    let rate = drop-four 12 bytes (omega arith) are ∙ ap (λ l. to_le_bytes w32 h.rate ++ l) gain in
    let pre_skip = drop-two 10 bytes (omega arith) are ∙ ap (λ l. to_le_bytes w16 h.pre_skip ++ l) rate in
    let channels = drop-byte 9 bytes (omega arith) ∙ ap (λ l. h.channels ∷ l) pre_skip in
    let version = drop-byte 8 bytes (omega arith) ∙ ap (λ l. h.version ∷ l) channels in
    sym (take-append-drop 8 bytes)
    ∙ ap (λ l. l ++ drop 8 bytes) (front-same magic bytes begins)
    ∙ ap (λ l. magic ++ l) version

-- the table and what follows it

mapping-is : (bytes : List ℕ) → 21 ≤ head_size bytes → drop 21 bytes ≡ mapping_in bytes ++ drop (head_size bytes) bytes
mapping-is bytes table =
    sym (take-append-drop (head_size bytes - 21) (drop 21 bytes))
    ∙ ap (λ l. take (head_size bytes - 21) (drop 21 bytes) ++ l)
    (drop-drop (head_size bytes - 21) 21 bytes ∙ ap (λ n. drop n bytes) (omega arith))

length-mapping : (bytes : List ℕ) → head_size bytes ≤ length bytes
    → length (mapping_in bytes) ≡ head_size bytes - 21
length-mapping bytes whole = omega (arith, length-take (head_size bytes - 21) (drop 21 bytes), length-drop 21 bytes)

counts-are : (bytes : List ℕ) → 21 ≤ length bytes
    → drop 19 bytes ≡ streams_in bytes ∷ coupled_in bytes ∷ drop 21 bytes
counts-are bytes within =
    drop-byte 19 bytes (omega arith) ∙ ap (λ l. streams_in bytes ∷ l) (drop-byte 20 bytes (omega arith))

record Rest (bytes : List ℕ) (table : Table) : Type 0 where
  pub fits : IsTable (family_in bytes) (channels_in bytes) table
  pub spelled : drop 19 bytes ≡ table_bytes table ++ drop (head_size bytes) bytes

rest-map : (bytes : List ℕ) → NoFault bytes → family_in bytes ≢ 0 → family_in bytes ≢ 3
    → Rest bytes (Map (streams_in bytes) (coupled_in bytes) (mapping_in bytes))
rest-map bytes is some no_matrix =
    let size = head_size-table bytes some in
    let mapping = mapping_size-map bytes no_matrix in
    let count = length-mapping bytes is.whole in
    let same : mapping_in bytes ≡ slice_range bytes 21 (21 + channels_in bytes) =
    ap (λ n. slice_range bytes 21 n) (size ∙ ap (λ n. 21 + n) mapping) in
    record {
      fits = record {
        has_table = some;
        no_matrix = no_matrix;
        counted = is.counted some;
        size = omega (arith, size, mapping, count);
        known = list_all-prefix (is_map_byte (decoded_in bytes)) (mapping_in bytes)
            (rw same (let known = is.known some no_matrix in omega (arith, size, mapping, count, ap length same)));
      };
      spelled = counts-are bytes (omega (arith, is.whole, size))
          ∙ ap (λ l. streams_in bytes ∷ coupled_in bytes ∷ l) (mapping-is bytes (omega arith));
    }

rest-matrix : (bytes : List ℕ) → NoFault bytes → AreBytes bytes → family_in bytes ≡ 3
    → Rest bytes (Matrix (streams_in bytes) (coupled_in bytes) (mapping_in bytes))
rest-matrix bytes is are matrix =
    let some : family_in bytes ≢ 0 = λ none. omega arith in
    let size = head_size-table bytes some in
    let factors : mapping_size bytes ≡ 2 * (decoded_in bytes * channels_in bytes) = rw (eq-eqb (family_in bytes) 3 matrix) refl in
    let count = length-mapping bytes is.whole in
    record {
      fits = record {
        is_matrix = matrix;
        counted = is.counted some;
        size = omega (arith, size, factors, count);
        bytes = AreBytes-take (head_size bytes - 21) (drop 21 bytes) (AreBytes-drop 21 bytes are);
      };
      spelled = counts-are bytes (omega (arith, is.whole, size))
          ∙ ap (λ l. streams_in bytes ∷ coupled_in bytes ∷ l) (mapping-is bytes (omega arith));
    }

pub table-map : (bytes : List ℕ) → family_in bytes ≢ 0 → family_in bytes ≢ 3
    → table_in bytes ≡ Map (streams_in bytes) (coupled_in bytes) (mapping_in bytes)
table-map bytes some no_matrix =
    cond-false (family_in bytes == 0) None _ (ne_eqb (family_in bytes) 0 some)
    ∙ cond-false (family_in bytes == 3) (Matrix (streams_in bytes) (coupled_in bytes) (mapping_in bytes)) _
    (ne_eqb (family_in bytes) 3 no_matrix)

pub table-matrix : (bytes : List ℕ) → family_in bytes ≡ 3
    → table_in bytes ≡ Matrix (streams_in bytes) (coupled_in bytes) (mapping_in bytes)
table-matrix bytes matrix =
    cond-false (family_in bytes == 0) None _ (ne_eqb (family_in bytes) 0 (λ none. omega arith))
    ∙ cond-true (family_in bytes == 3) (Matrix (streams_in bytes) (coupled_in bytes) (mapping_in bytes)) _
    (eq-eqb (family_in bytes) 3 matrix)

rest-is : (bytes : List ℕ) → NoFault bytes → AreBytes bytes
    → (family_in bytes ≡ 0) ⊎ (family_in bytes ≢ 0) → (family_in bytes ≡ 3) ⊎ (family_in bytes ≢ 3)
    → Rest bytes (table_in bytes)
rest-is bytes is are (inl none) other =
    rw (eq-eqb (family_in bytes) 0 none)
    (record { fits = none; spelled = ap (λ n. drop n bytes) (sym (head_size-plain bytes none)) })
rest-is bytes is are (inr some) (inl matrix) =
    subst (Rest bytes) (sym (table-matrix bytes matrix)) (rest-matrix bytes is are matrix)
rest-is bytes is are (inr some) (inr no_matrix) =
    subst (Rest bytes) (sym (table-map bytes some no_matrix)) (rest-map bytes is some no_matrix)

pub head_in-spelled : (bytes : List ℕ) → NoFault bytes → AreBytes bytes → IsOpusHead (head_in bytes) bytes
head_in-spelled bytes is are =
    let rest = rest-is bytes is are (cases_eq (family_in bytes) 0) (cases_eq (family_in bytes) 3) in
    let pair = little_number-two (drop 16 bytes) (AreBytes-drop 16 bytes are) in
    record {
      value = record {
        version = is.version;
        some = is.some;
        fit = AreBytes-at bytes are 9;
        count = is.count;
        pre_skip = little_number-two (drop 10 bytes) (AreBytes-drop 10 bytes are);
        rate = little_number-four (drop 12 bytes) (AreBytes-drop 12 bytes are);
        gain = sfits_to_z (Fits-of_lt pair);
        family = AreBytes-at bytes are 18;
        table = rest.fits;
        plain = λ one. drop_all (head_size bytes) bytes (is.plain one);
        extra = AreBytes-drop (head_size bytes) bytes are;
      };
      spelled = front-is bytes (least_size bytes is) are is.begins
          ∙ ap (λ l. front_bytes (head_in bytes) ++ l) rest.spelled
          ∙ sym (append_assoc (front_bytes (head_in bytes)) (table_bytes (table_in bytes)) (drop (head_size bytes) bytes));
    }
