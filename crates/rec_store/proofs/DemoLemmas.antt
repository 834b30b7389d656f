-- What stands at the front of an `opus_demo` store, and lemmas for a loop over its payload.
use Rattle.std.proofs.Common.{◌≡◌, ℕ, ◌+◌, ◌-◌, ◌^◌, ◌<◌, ◌≤◌, List, [], ◌∷◌, ◌++◌, length, length-append, length-drop, take, drop, drop-drop, take-append-drop, refl, sym, ap, ◌∙◌, append_assoc, arith}
use Rattle.std.proofs.lemmas.List.{length-take-le}
use Rattle.std.proofs.lemmas.Nat.{from_be_bytes-to_be_bytes_4}
use Rattle.std.specs.List.{AllByRecursion}
use Rattle.std.specs.Int.{w32, to_be_bytes, from_be_bytes}
use Rattle.rec_store.specs.DemoStore.{demo_head, demo_record, IsDemoRecord, NoWholeRecord}
use Rattle.opus_io.proofs.BytesLemmas.{AreBytes-take, AreBytes-drop}
use Rattle.rec_store.proofs.ByteLemmas.{number_of}

-- two fronts of one length
pub fronts_same : (a b xs ys : List ℕ) → length a ≡ length b → a ++ xs ≡ b ++ ys → (a ≡ b) × (xs ≡ ys)
fronts_same [] [] xs ys size e = (refl, e)
fronts_same [] (y ∷ b) xs ys size e = absurd (omega arith)
fronts_same (x ∷ a) [] xs ys size e = absurd (omega arith)
fronts_same (x ∷ a) (y ∷ b) xs ys size e =
    let first : x ≡ y = cc in
    let behind : a ++ xs ≡ b ++ ys = cc in
    let rest = fronts_same a b xs ys (omega arith) behind in
    let front : a ≡ b = rest.0 in
    (cc, rest.1)

-- four bytes spell one number
pub number_same : (m n : ℕ) → m < 2 ^ 32 → n < 2 ^ 32 → to_be_bytes w32 m ≡ to_be_bytes w32 n → m ≡ n
number_same m n p q e =
    sym (from_be_bytes-to_be_bytes_4 m p) ∙ ap (from_be_bytes w32) e ∙ from_be_bytes-to_be_bytes_4 n q

-- eight bytes are one head
pub demo_head-front : (len len' range range' : ℕ) (xs ys : List ℕ) → len < 2 ^ 32 → len' < 2 ^ 32
    → range < 2 ^ 32 → range' < 2 ^ 32 → demo_head len range ++ xs ≡ demo_head len' range' ++ ys
    → (len ≡ len') × (range ≡ range') × (xs ≡ ys)
demo_head-front len len' range range' xs ys p p' q q' e =
    let heads = fronts_same (demo_head len range) (demo_head len' range') xs ys refl e in
    let numbers = fronts_same (to_be_bytes w32 len) (to_be_bytes w32 len') (to_be_bytes w32 range) (to_be_bytes w32 range') refl heads.0 in
    (number_same len len' p p' numbers.0, number_same range range' q q' numbers.1, heads.1)

-- the same bytes begin with one record
pub demo_record-front : (range range' : ℕ) (payload payload' xs ys : List ℕ)
    → IsDemoRecord range payload → IsDemoRecord range' payload'
    → demo_record range payload ++ xs ≡ demo_record range' payload' ++ ys
    → (range ≡ range') × (payload ≡ payload') × (xs ≡ ys)
demo_record-front range range' payload payload' xs ys p q e =
    let head = demo_head (length payload) range in
    let head' = demo_head (length payload') range' in
    let heads = demo_head-front (length payload) (length payload') range range' (payload ++ xs) (payload' ++ ys)
    p.payload_fits q.payload_fits p.range_fits q.range_fits
    (sym (append_assoc head payload xs) ∙ e ∙ append_assoc head' payload' ys) in
    let payloads = fronts_same payload payload' xs ys heads.0 heads.2 in
    (heads.1, payloads.0, payloads.1)

pub length-demo_record : (range : ℕ) (payload : List ℕ) → length (demo_record range payload) ≡ 8 + length payload
length-demo_record range payload = length-append (demo_head (length payload) range) payload

-- fewer than eight bytes are no head
pub NoWholeRecord-short : (bytes : List ℕ) → length bytes < 8 → NoWholeRecord bytes
NoWholeRecord-short bytes short range payload more is e =
    let sizes = ap (λ (l : List ℕ). length l) e ∙ length-append (demo_record range payload) more in
    omega (arith, length-demo_record range payload)

-- a head with a part of its payload
pub NoWholeRecord-cut : (len range : ℕ) (part : List ℕ) → len < 2 ^ 32 → range < 2 ^ 32 → length part < len
    → NoWholeRecord (demo_head len range ++ part)
NoWholeRecord-cut len range part p q short range' payload more is e =
    let heads = demo_head-front len (length payload) range range' part (payload ++ more) p is.payload_fits q is.range_fits
    (e ∙ append_assoc (demo_head (length payload) range') payload more) in
    let sizes = ap (λ (l : List ℕ). length l) heads.2 ∙ length-append payload more in
    omega (arith, heads.0)

-- a head with its payload or more
pub demo_record-whole : (len range : ℕ) (body : List ℕ) → len < 2 ^ 32 → range < 2 ^ 32 → len ≤ length body
    → IsDemoRecord range (take len body) × (demo_head len range ++ body ≡ demo_record range (take len body) ++ drop len body)
demo_record-whole len range body p q enough =
    let size = length-take-le len body enough in
    let head : demo_head (length (take len body)) range ≡ demo_head len range = ap (λ n. demo_head n range) size in (
      record { range_fits = q; payload_fits = omega arith },
      ap (λ l. demo_head len range ++ l) (sym (take-append-drop len body))
          ∙ sym (append_assoc (demo_head len range) (take len body) (drop len body))
          ∙ ap (λ l. (l ++ take len body) ++ drop len body) (sym head),
    )

-- eight bytes are a head
pub demo_head-of : (bytes : List ℕ) → AllByRecursion (λ byte. byte < 256) bytes → 8 ≤ length bytes
    → (len range : ℕ) × (len < 2 ^ 32) × (range < 2 ^ 32) × (bytes ≡ demo_head len range ++ drop 8 bytes)
demo_head-of bytes are long =
    let rest = drop 4 bytes in
    let size : length rest ≡ length bytes - 4 = length-drop 4 bytes in
    let first = number_of (take 4 bytes) (length-take-le 4 bytes (omega arith)) (AreBytes-take 4 bytes are) in
    let second = number_of (take 4 rest) (length-take-le 4 rest (omega arith)) (AreBytes-take 4 rest (AreBytes-drop 4 bytes are)) in
    let behind : drop 4 rest ≡ drop 8 bytes = drop-drop 4 4 bytes in
    let len = to_be_bytes w32 first.0 in
    let range = to_be_bytes w32 second.0 in (
      first.0,
      second.0,
      first.1,
      second.1,
      sym (take-append-drop 4 bytes) ∙ ap (λ l. l ++ rest) (sym first.2)
          ∙ ap (λ l. len ++ l) (sym (take-append-drop 4 rest) ∙ ap (λ l. l ++ drop 4 rest) (sym second.2)
          ∙ ap (λ l. range ++ l) behind)
          ∙ sym (append_assoc len range (drop 8 bytes)),
    )
