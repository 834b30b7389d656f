-- What a gathered sink keeps back, as a range of its buffer.
use Rattle.std.proofs.Common.{◌≡◌, ℕ, ◌+◌, ◌-◌, ◌≤◌, List, ◌++◌, take, drop, slice_range, length, sym, ap, ◌∙◌, length-take-le, arith}
use Rattle.std.proofs.lemmas.List.{drop-take, drop-append-le}

range_is : (xs : List ℕ) (a e : ℕ) → a ≤ e → slice_range xs a e ≡ drop a (take e xs)
range_is xs a e ordered =
    let whole : a + (e - a) ≡ e = omega arith in
    sym (drop-take a (e - a) xs) ∙ ap (λ k. drop a (take k xs)) whole

-- a piece that is put behind the range makes it longer
pub range_grown : (xs ys piece : List ℕ) (a e : ℕ) → a ≤ e → e ≤ length xs
    → take (e + length piece) ys ≡ take e xs ++ piece
    → slice_range ys a (e + length piece) ≡ slice_range xs a e ++ piece
range_grown xs ys piece a e ordered within put =
    let size : a ≤ length (take e xs) = omega (arith, length-take-le e xs within) in
    range_is ys a (e + length piece) (omega arith) ∙ ap (drop a) put
    ∙ drop-append-le a (take e xs) piece size ∙ ap (λ l. l ++ piece) (sym (range_is xs a e ordered))
