-- Lists of bytes, and the numbers that they spell.
use Rattle.std.proofs.Common.{◌≡◌, ℕ, ◌^◌, ◌<◌, List, length, refl, arith}
use Rattle.std.proofs.lemmas.Nat.{be_bytes_2, be_bytes_4}
use Rattle.std.specs.Int.{w16, w32, to_be_bytes, from_be_bytes}
use Rattle.opus_io.specs.Bytes.{AreBytes}
use Rattle.opus_io.proofs.BytesLemmas.{AreBytes-at}

-- two bytes are a number
pub short_of : (bs : List ℕ) → length bs ≡ 2 → AreBytes bs
    → (n : ℕ) × (n < 2 ^ 16) × (to_be_bytes w16 n ≡ bs)
short_of bs size are =
    let small = AreBytes-at bs are in
    let n = from_be_bytes w16 bs in
    (n, omega (arith, small 0, small 1), be_bytes_2 bs n size small refl)

-- four bytes are a number
pub number_of : (bs : List ℕ) → length bs ≡ 4 → AreBytes bs
    → (n : ℕ) × (n < 2 ^ 32) × (to_be_bytes w32 n ≡ bs)
number_of bs size are =
    let small = AreBytes-at bs are in
    let n = from_be_bytes w32 bs in
    (n, omega (arith, small 0, small 1, small 2, small 3), be_bytes_4 bs n size small refl)
