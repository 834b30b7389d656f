-- The mapping bytes in front of the first that isn't one.
use Rattle.std.proofs.Common.{◌≡◌, ◌≢◌, ℕ, ◌+◌, ◌≤◌, ◌<◌, Bool, true, false, List, [], ◌∷◌, length, get_or, Ok, Err, refl, sym, ap, ◌∙◌, ⊎_elim, arith}
use Rattle.std.specs.List.{prefix_len, list_all, slice_range}
use Rattle.std.proofs.lemmas.Bool.{lt-ltb, le-ltb, le-leb, ne_eqb, and_parts, cases_Bool}
use Rattle.std.proofs.lemmas.List.Sums.{prefix_len_is}
use Rattle.opus_head.specs.HeadValue.{is_map_byte}
use Rattle.opus_head.specs.HeadFault.{channels_in, family_in, decoded_in, known_mapping, mapping_fault}
use Rattle.opus_head.specs.Checks.{outcome}
use Rattle.opus_head.specs.declared.fault.HeadFault.TheVariants.{MapByte}

pub known_mapping-is : (bytes items : List ℕ) (decoded channel : ℕ)
    → items ≡ slice_range bytes 21 (21 + channels_in bytes) → decoded ≡ decoded_in bytes
    → channel ≤ length items
    → ((k : ℕ) → k < channel → is_map_byte decoded (get_or items k 0) ≡ true)
    → (channel < length items → is_map_byte decoded (get_or items channel 0) ≡ false)
    → known_mapping bytes ≡ channel
known_mapping-is bytes items decoded channel is count within known wrong =
    ap (λ n. prefix_len (is_map_byte n) (slice_range bytes 21 (21 + channels_in bytes))) (sym count)
    ∙ ap (prefix_len (is_map_byte decoded)) (sym is)
    ∙ prefix_len_is (is_map_byte decoded) items channel 0 within known wrong

pub mapping_fault-found : (bytes : List ℕ) (channel : ℕ) → family_in bytes ≢ 3
    → 21 + channels_in bytes ≤ length bytes → known_mapping bytes ≡ channel → channel < channels_in bytes
    → Err (MapByte channel) ≡ outcome (mapping_fault bytes)
mapping_fault-found bytes channel no_matrix whole known within =
    rw (ne_eqb (family_in bytes) 3 no_matrix, le-leb (21 + channels_in bytes) (length bytes) whole, known, lt-ltb channel (channels_in bytes) within) refl

pub mapping_fault-none : (bytes : List ℕ) → family_in bytes ≢ 3
    → 21 + channels_in bytes ≤ length bytes → channels_in bytes ≤ known_mapping bytes
    → Ok tt ≡ outcome (mapping_fault bytes)
mapping_fault-none bytes no_matrix whole known =
    rw (ne_eqb (family_in bytes) 3 no_matrix, le-leb (21 + channels_in bytes) (length bytes) whole, le-ltb (known_mapping bytes) (channels_in bytes) known) refl

-- where all pass a test, and where the first that pass are all
pub prefix_len-all : (p : ℕ → Bool) (xs : List ℕ) → list_all p xs ≡ true → prefix_len p xs ≡ length xs
prefix_len-all p [] all = refl
prefix_len-all p (x ∷ xs) all =
    let (first, rest) = and_parts (p x) (list_all p xs) all in
    let behind = prefix_len-all p xs rest in
    rw first (omega arith)

pub list_all-prefix : (p : ℕ → Bool) (xs : List ℕ) → length xs ≤ prefix_len p xs → list_all p xs ≡ true
list_all-prefix p [] all = refl
list_all-prefix p (x ∷ xs) all =
    ⊎_elim
    (λ (first : p x ≡ true). let rest : length xs ≤ prefix_len p xs = let sized = rw first at all in omega arith in
    rw first (list_all-prefix p xs rest))
    (λ (first : p x ≡ false). let sized = rw first at all in absurd (omega arith))
    (cases_Bool (p x))
