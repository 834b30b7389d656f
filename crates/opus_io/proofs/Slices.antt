-- Lemmas on parts of lists.
use Rattle.std.proofs.Common.{◌≡◌, ℕ, ◌+◌, ◌-◌, ◌≤◌, List, take, drop, slice_range, sym, ap, ◌∙◌, arith, length, length-take, drop-drop}
use Rattle.std.proofs.lemmas.List.{drop-take}

-- a range that begins later is the range without its first items
pub slice_range-advance : (xs : List ℕ) (a e n : ℕ) → a ≤ e → n ≤ length (slice_range xs a e)
    → slice_range xs (a + n) e ≡ drop n (slice_range xs a e)
slice_range-advance xs a e n ordered fits =
    let within : n ≤ e - a = omega (arith, length-take (e - a) (drop a xs)) in
    let whole : n + (e - (a + n)) ≡ e - a = omega arith in
    ap (take (e - (a + n))) (sym (drop-drop n a xs))
    ∙ sym (drop-take n (e - (a + n)) (drop a xs))
    ∙ ap (λ k. drop n (take k (drop a xs))) whole
