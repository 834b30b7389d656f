-- Numbers of two and four bytes, the lowest first.
use Rattle.std.proofs.Common.{◌≡◌, ℕ, ◌+◌, ◌*◌, ◌/◌, ◌%◌, ◌^◌, ◌≤◌, ◌<◌, List, [], ◌∷◌, ◌++◌, length, take, refl, arith}
use Rattle.std.specs.Int.{w16, w32, to_le_bytes}
use Rattle.byteorder.specs.Endian.{little_number}
use Rattle.opus_io.proofs.BytesLemmas.{AreBytes-at}
use Rattle.opus_head.specs.HeadValue.{AreBytes}

pub to_le_bytes-two : (xs : List ℕ) → 2 ≤ length xs → AreBytes xs → to_le_bytes w16 (little_number 2 xs) ≡ take 2 xs
to_le_bytes-two [] long bytes = absurd (omega arith)
to_le_bytes-two (a ∷ []) long bytes = absurd (omega arith)
to_le_bytes-two (a ∷ b ∷ xs) long bytes =
    let p : a < 256 = bytes.0 in
    let q : b < 256 = bytes.1.0 in
    let low : (a + 256 * (b + 256 * 0)) % 256 ≡ a = omega arith in
    let high : (a + 256 * (b + 256 * 0)) / 256 % 256 ≡ b = omega arith in
    rw (low, high) refl

pub to_le_bytes-four : (xs : List ℕ) → 4 ≤ length xs → AreBytes xs → to_le_bytes w32 (little_number 4 xs) ≡ take 4 xs
to_le_bytes-four [] long bytes = absurd (omega arith)
to_le_bytes-four (a ∷ []) long bytes = absurd (omega arith)
to_le_bytes-four (a ∷ b ∷ []) long bytes = absurd (omega arith)
to_le_bytes-four (a ∷ b ∷ c ∷ []) long bytes = absurd (omega arith)
to_le_bytes-four (a ∷ b ∷ c ∷ d ∷ xs) long bytes =
    let p : a < 256 = bytes.0 in
    let q : b < 256 = bytes.1.0 in
    let r : c < 256 = bytes.1.1.0 in
    let s : d < 256 = bytes.1.1.1.0 in
    let n = a + 256 * (b + 256 * (c + 256 * (d + 256 * 0))) in
    let first : n % 256 ≡ a = omega arith in
    let second : n / 256 % 256 ≡ b = omega arith in
    let third : n / 65536 % 256 ≡ c = omega arith in
    let fourth : n / 16777216 % 256 ≡ d = omega arith in
    rw (first, second, third, fourth) refl

pub little_number-two : (xs : List ℕ) → AreBytes xs → little_number 2 xs < 2 ^ 16
little_number-two xs bytes =
    let p = AreBytes-at xs bytes 0 in
    let q = AreBytes-at xs bytes 1 in
    omega arith

pub little_number-four : (xs : List ℕ) → AreBytes xs → little_number 4 xs < 2 ^ 32
little_number-four xs bytes =
    let p = AreBytes-at xs bytes 0 in
    let q = AreBytes-at xs bytes 1 in
    let r = AreBytes-at xs bytes 2 in
    let s = AreBytes-at xs bytes 3 in
    omega arith

pub reads_back-two : (n : ℕ) (rest : List ℕ) → n < 2 ^ 16 → little_number 2 (to_le_bytes w16 n ++ rest) ≡ n
reads_back-two n rest fits = omega arith

pub reads_back-four : (n : ℕ) (rest : List ℕ) → n < 2 ^ 32 → little_number 4 (to_le_bytes w32 n ++ rest) ≡ n
reads_back-four n rest fits = omega arith
