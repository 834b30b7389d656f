-- Numbers that stay near the greatest one are found again, each plus one constant.
use Rattle.std.proofs.Common.{◌≡◌, ℕ, ◌+◌, ◌-◌, ◌%◌, ◌<◌, ◌≤◌, max, ℤ, pos, ◌+ℤ◌, ◌-ℤ◌, List, [], ◌∷◌, map, refl, ap, ◌∙◌, arith}
use Rattle.std.proofs.lemmas.Int.{ints}
use Rattle.rtp_ends.specs.Numbers.{Heard, Placed, number_at, place_after, placed_after, extended_numbers}
use Rattle.rtp_ends.specs.ReportLaws.{StaysNear}
use Rattle.rtp_ends.proofs.NumberLemmas.{IsPlaceAfter-one, place_after-is}

-- One step, where the first number was k0 at place p0, and the greatest one m at place g.
step : (start k0 p0 m g k : ℕ) → p0 ≡ 65536 + (start + k0) % 65536 → g + k0 ≡ m + p0 → 65536 ≤ g
    → m < k + 32768 → k < m + 32768 → place_after g ((start + k) % 65536) + k0 ≡ k + p0
step start k0 p0 m g k first greatest high above below =
    let seq = (start + k) % 65536 in
    let q = k + p0 - k0 in
    let fits : seq < 65536 = omega arith in
    let enough : k0 ≤ k + p0 = omega arith in
    let same : q % 65536 ≡ seq = omega arith in
    let found : place_after g seq ≡ q =
    IsPlaceAfter-one g seq (place_after g seq) q (place_after-is g seq high fits)
    (record { same = same; above = omega arith; within = omega arith }) in
    omega arith

numbered : (k0 p0 k p : ℕ) → p + k0 ≡ k + p0 → number_at p ≡ pos k +ℤ (number_at p0 -ℤ pos k0)
numbered k0 p0 k p same = omega (arith, ints)

near : (start k0 p0 m g : ℕ) (hs : List Heard) (ks : List ℕ) → p0 ≡ 65536 + (start + k0) % 65536 → g + k0 ≡ m + p0
    → 65536 ≤ g → StaysNear m ks → map (λ (h : Heard). h.seq) hs ≡ map (λ n. (start + n) % 65536) ks
    → map (λ (a : Placed). number_at a.place) (placed_after g hs) ≡ map (λ n. pos n +ℤ (number_at p0 -ℤ pos k0)) ks
near start k0 p0 m g [] [] first greatest high stays seqs = refl
near start k0 p0 m g [] (k ∷ ks) first greatest high stays seqs = absurd cc
near start k0 p0 m g (h ∷ hs) [] first greatest high stays seqs = absurd cc
near start k0 p0 m g (h ∷ hs) (k ∷ ks) first greatest high stays seqs =
    let head : h.seq ≡ (start + k) % 65536 = cc in
    let tail : map (λ (h : Heard). h.seq) hs ≡ map (λ n. (start + n) % 65536) ks = cc in
    let p = place_after g h.seq in
    let found : p + k0 ≡ k + p0 =
    ap (λ s. place_after g s + k0) head ∙ step start k0 p0 m g k first greatest high stays.0 stays.1 in
    let rest = near start k0 p0 (max m k) (max g p) hs ks first (omega arith) (omega arith) stays.2 tail in
    ap (λ (z : ℤ). z ∷ map (λ (a : Placed). number_at a.place) (placed_after (max g p) hs)) (numbered k0 p0 k p found)
    ∙ ap (λ (l : List ℤ). (pos k +ℤ (number_at p0 -ℤ pos k0)) ∷ l) rest

-- each number is k plus one constant
pub unwrapped : (start k : ℕ) (ks : List ℕ) (heard : List Heard)
    → map (λ (h : Heard). h.seq) heard ≡ map (λ n. (start + n) % 65536) (k ∷ ks) → StaysNear k ks
    → extended_numbers heard
    ≡ map (λ n. pos n +ℤ (number_at (65536 + (start + k) % 65536) -ℤ pos k)) (k ∷ ks)
unwrapped start k ks [] seqs stays = absurd cc
unwrapped start k ks (h ∷ hs) seqs stays =
    let head : h.seq ≡ (start + k) % 65536 = cc in
    let tail : map (λ (h : Heard). h.seq) hs ≡ map (λ n. (start + n) % 65536) ks = cc in
    let p0 = 65536 + (start + k) % 65536 in
    ap (λ s. number_at (65536 + s) ∷ map (λ (a : Placed). number_at a.place) (placed_after (65536 + s) hs)) head
    ∙ ap (λ (z : ℤ). z ∷ map (λ (a : Placed). number_at a.place) (placed_after p0 hs)) (numbered k p0 k p0 (omega arith))
    ∙ ap (λ (l : List ℤ). (pos k +ℤ (number_at p0 -ℤ pos k)) ∷ l)
    (near start k p0 k p0 hs ks refl (omega arith) (omega arith) stays tail)
