-- Numbers of two and four bytes, the highest first.
use Rattle.std.proofs.Common.{◌≡◌, ℕ, ◌+◌, ◌*◌, ◌/◌, ◌%◌, ◌^◌, ◌≤◌, ◌<◌, List, [], ◌∷◌, ◌++◌, length, take, drop, drop-drop, take-append-drop, length-drop, sym, ap, ◌∙◌, refl, arith}
use Rattle.std.specs.Int.{w16, w32, to_be_bytes}
use Rattle.byteorder.specs.Endian.{big_number}
use Rattle.opus_io.proofs.BytesLemmas.{AreBytes-at, AreBytes-drop}
use Rattle.rtp_packet.specs.RtpValue.{AreBytes}

to_be_bytes-two : (xs : List ℕ) → 2 ≤ length xs → AreBytes xs → to_be_bytes w16 (big_number 2 xs) ≡ take 2 xs
to_be_bytes-two [] long bytes = absurd (omega arith)
to_be_bytes-two (a ∷ []) long bytes = absurd (omega arith)
to_be_bytes-two (a ∷ b ∷ xs) long bytes =
    let p : a < 256 = bytes.0 in
    let q : b < 256 = bytes.1.0 in
    let n = a * 256 + (b * 1 + 0) in
    let high : n / 256 % 256 ≡ a = omega arith in
    let low : n % 256 ≡ b = omega arith in
    rw (high, low) refl

to_be_bytes-four : (xs : List ℕ) → 4 ≤ length xs → AreBytes xs → to_be_bytes w32 (big_number 4 xs) ≡ take 4 xs
to_be_bytes-four [] long bytes = absurd (omega arith)
to_be_bytes-four (a ∷ []) long bytes = absurd (omega arith)
to_be_bytes-four (a ∷ b ∷ []) long bytes = absurd (omega arith)
to_be_bytes-four (a ∷ b ∷ c ∷ []) long bytes = absurd (omega arith)
to_be_bytes-four (a ∷ b ∷ c ∷ d ∷ xs) long bytes =
    let p : a < 256 = bytes.0 in
    let q : b < 256 = bytes.1.0 in
    let r : c < 256 = bytes.1.1.0 in
    let s : d < 256 = bytes.1.1.1.0 in
    let n = a * 16777216 + (b * 65536 + (c * 256 + (d * 1 + 0))) in
    let first : n / 16777216 % 256 ≡ a = omega arith in
    let second : n / 65536 % 256 ≡ b = omega arith in
    let third : n / 256 % 256 ≡ c = omega arith in
    let fourth : n % 256 ≡ d = omega arith in
    rw (first, second, third, fourth) refl

-- a number in front of what follows

pub drop-two : (n : ℕ) (xs : List ℕ) → n + 2 ≤ length xs → AreBytes xs
    → drop n xs ≡ to_be_bytes w16 (big_number 2 (drop n xs)) ++ drop (n + 2) xs
drop-two n xs within bytes =
    sym (take-append-drop 2 (drop n xs))
    ∙ ap (λ l. l ++ drop 2 (drop n xs)) (sym (to_be_bytes-two (drop n xs) (omega (arith, length-drop n xs)) (AreBytes-drop n xs bytes)))
    ∙ ap (λ l. to_be_bytes w16 (big_number 2 (drop n xs)) ++ l) (drop-drop 2 n xs)

pub drop-four : (n : ℕ) (xs : List ℕ) → n + 4 ≤ length xs → AreBytes xs
    → drop n xs ≡ to_be_bytes w32 (big_number 4 (drop n xs)) ++ drop (n + 4) xs
drop-four n xs within bytes =
    sym (take-append-drop 4 (drop n xs))
    ∙ ap (λ l. l ++ drop 4 (drop n xs)) (sym (to_be_bytes-four (drop n xs) (omega (arith, length-drop n xs)) (AreBytes-drop n xs bytes)))
    ∙ ap (λ l. to_be_bytes w32 (big_number 4 (drop n xs)) ++ l) (drop-drop 4 n xs)

-- numbers of bytes fit

pub big_number-two : (xs : List ℕ) → AreBytes xs → big_number 2 xs < 2 ^ 16
big_number-two xs bytes =
    let p = AreBytes-at xs bytes 0 in
    let q = AreBytes-at xs bytes 1 in
    omega arith

pub big_number-four : (xs : List ℕ) → AreBytes xs → big_number 4 xs < 2 ^ 32
big_number-four xs bytes =
    let p = AreBytes-at xs bytes 0 in
    let q = AreBytes-at xs bytes 1 in
    let r = AreBytes-at xs bytes 2 in
    let s = AreBytes-at xs bytes 3 in
    omega arith

-- a number is read back

pub reads_back-two : (n : ℕ) (rest : List ℕ) → n < 2 ^ 16 → big_number 2 (to_be_bytes w16 n ++ rest) ≡ n
reads_back-two n rest fits = omega arith

pub reads_back-four : (n : ℕ) (rest : List ℕ) → n < 2 ^ 32 → big_number 4 (to_be_bytes w32 n ++ rest) ≡ n
reads_back-four n rest fits = omega arith
