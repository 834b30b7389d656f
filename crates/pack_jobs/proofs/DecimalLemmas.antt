-- The length of decimal digits.
use Rattle.std.proofs.Common.{◌≡◌, ℕ, ◌+◌, ◌^◌, ◌/◌, ◌%◌, ◌<◌, ◌≤◌, List, [], ◌∷◌, ◌++◌, length, sym, ap, ◌∙◌, append_assoc, length-append, arith}
use Rattle.std.specs.Fmt.{decimal}
use Rattle.std.proofs.lemmas.Fmt.{decimal_digit, decimal_step, length-decimal-le}

pub length-decimal_digit : (n : ℕ) → n < 10 → length (decimal n) ≡ 1
length-decimal_digit n small = ap (λ (l : List ℕ). length l) (decimal_digit n small)

pub length-decimal_step : (n : ℕ) → 10 ≤ n → n < 2 ^ 64 → length (decimal n) ≡ length (decimal (n / 10)) + 1
length-decimal_step n large fits =
    ap (λ (l : List ℕ). length l) (decimal_step n large fits)
    ∙ length-append (decimal (n / 10)) ((48 + n % 10) ∷ [])

pub length-decimal_most : (n : ℕ) → n < 2 ^ 64 → length (decimal n) ≤ 20
length-decimal_most n fits = length-decimal-le 20 n (omega arith) (omega arith) fits

-- digits before a text, and the last one of them by itself
pub decimal-front : (n : ℕ) (text : List ℕ) → 10 ≤ n → n < 2 ^ 64
    → decimal (n / 10) ++ (48 + n % 10) ∷ text ≡ decimal n ++ text
decimal-front n text large fits =
    sym (append_assoc (decimal (n / 10)) ((48 + n % 10) ∷ []) text)
    ∙ ap (λ l. l ++ text) (sym (decimal_step n large fits))
