-- Lemmas on lists of bytes.
use Rattle.std.proofs.Common.{◌≡◌, ℕ, zero, suc, ◌+◌, ◌<◌, List, [], ◌∷◌, ◌++◌, length, get_or, slice_index, take, drop, replicate, add-one, arith}
use Rattle.std.proofs.Math.Seq.{drop-cons}
use Rattle.opus_io.specs.Bytes.{AreBytes}

pub AreBytes-at : (bs : List ℕ) → AreBytes bs → (i : ℕ) → get_or bs i 0 < 256
AreBytes-at [] bytes i = omega arith
AreBytes-at (b ∷ bs) bytes zero = bytes.0
AreBytes-at (b ∷ bs) bytes (suc i) = AreBytes-at bs bytes.1 i

pub AreBytes-from : (bs : List ℕ) → ((i : ℕ) → get_or bs i 0 < 256) → AreBytes bs
AreBytes-from [] fits = tt
AreBytes-from (b ∷ bs) fits = (fits 0, AreBytes-from bs (λ i. fits (suc i)))

pub AreBytes-append : (xs ys : List ℕ) → AreBytes xs → AreBytes ys → AreBytes (xs ++ ys)
AreBytes-append [] ys p q = q
AreBytes-append (x ∷ xs) ys p q = (p.0, AreBytes-append xs ys p.1 q)

pub AreBytes-left : (xs ys : List ℕ) → AreBytes (xs ++ ys) → AreBytes xs
AreBytes-left [] ys p = tt
AreBytes-left (x ∷ xs) ys p = (p.0, AreBytes-left xs ys p.1)

pub AreBytes-right : (xs ys : List ℕ) → AreBytes (xs ++ ys) → AreBytes ys
AreBytes-right [] ys p = p
AreBytes-right (x ∷ xs) ys p = AreBytes-right xs ys p.1

pub AreBytes-take : (n : ℕ) (xs : List ℕ) → AreBytes xs → AreBytes (take n xs)
AreBytes-take zero xs p = tt
AreBytes-take (suc n) [] p = tt
AreBytes-take (suc n) (x ∷ xs) p = (p.0, AreBytes-take n xs p.1)

pub AreBytes-drop : (n : ℕ) (xs : List ℕ) → AreBytes xs → AreBytes (drop n xs)
AreBytes-drop zero xs p = p
AreBytes-drop (suc n) [] p = tt
AreBytes-drop (suc n) (x ∷ xs) p = AreBytes-drop n xs p.1

pub AreBytes-zeros : (n : ℕ) → AreBytes (replicate n 0)
AreBytes-zeros zero = tt
AreBytes-zeros (suc n) = (omega arith, AreBytes-zeros n)

-- the byte at n, and the bytes behind it
pub drop-byte : (n : ℕ) (xs : List ℕ) → n < length xs → drop n xs ≡ slice_index xs n ∷ drop (n + 1) xs
drop-byte n xs within = rw (add-one n) (drop-cons xs n 0 within)
