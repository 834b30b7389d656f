-- Numbers and their decimal digits.
use Rattle.std.proofs.Common.{◌≡◌, ◌≢◌, ◌<◌, ◌≤◌, ◌⊎◌, ⊎_elim, inl, inr, ℕ, ◌+◌, ◌-◌, ◌*◌, ◌^◌, Bool, true, false, not, ◌==◌, ◌&&◌, nat_lt, nat_le, List, length, get_or, fold, is_some, Some, None, if◌then◌else◌, refl, sym, ap, ◌∙◌, rules, arith}
use Rattle.std.specs.Fmt.{decimal}
use Rattle.std.specs.List.{list_all}
use Rattle.std.proofs.lemmas.Bool.{and_parts, and_from, and_left, and_cases, cond-true, not-true, not_from_false, le-leb, leb-true, ltb-false, ne_eqb, eqb-false, cases_eq}
use Rattle.std.proofs.lemmas.Str.Parse.{IsNumeralModel, numerals_by_fold}
use Rattle.std.proofs.lemmas.Fmt.{digits_decimal, digits_value-decimal, decimal_nonempty, decimal_digit, first_decimal, decimal-digits_value}
use Rattle.text_numbers.specs.Number.{is_digit, is_padded, is_number, value_of, number_within}

pub own : IsNumeralModel (λ ds. list_all is_digit ds ≡ true) (λ ds. value_of ds)
own = numerals_by_fold _ (search rules) (λ m ds. fold (λ n c. n * 10 + (c - 48)) m ds) (search rules)

-- the digits of a number

pub decimal-digits : (n : ℕ) → n < 2 ^ 64 → list_all is_digit (decimal n) ≡ true
decimal-digits n fits = digits_decimal own n fits

pub value_of-decimal : (n : ℕ) → n < 2 ^ 64 → value_of (decimal n) ≡ n
value_of-decimal n fits = digits_value-decimal own n fits

padded-decimal : (n : ℕ) → n < 2 ^ 64 → (n ≡ 0) ⊎ (n ≢ 0) → is_padded (decimal n) ≡ false
padded-decimal n fits (inl zero) = ap is_padded (ap decimal zero ∙ decimal_digit 0 (omega arith))
padded-decimal n fits (inr some) =
    and_left (get_or (decimal n) 0 0 == 48) (nat_lt 1 (length (decimal n)))
    (ne_eqb (get_or (decimal n) 0 0) 48 (λ zero. omega (arith, first_decimal n (omega arith) fits)))

pub is_number-decimal : (n : ℕ) → n < 2 ^ 64 → is_number (decimal n) ≡ true
is_number-decimal n fits =
    let some : length (decimal n) ≢ 0 = λ none. omega (arith, decimal_nonempty n fits) in
    and_from _ _ (not_from_false _ (ne_eqb (length (decimal n)) 0 some))
    (and_from _ _ (not_from_false _ (padded-decimal n fits (cases_eq n 0))) (decimal-digits n fits))

pub number_within-decimal : (least most n : ℕ) → least ≤ n → n ≤ most → n < 2 ^ 64
    → number_within least most (decimal n) ≡ Some n
number_within-decimal least most n low high fits =
    let value = value_of-decimal n fits in
    cond-true _ _ _ (and_from _ _ (is_number-decimal n fits)
    (and_from _ _ (le-leb least (value_of (decimal n)) (omega arith)) (le-leb (value_of (decimal n)) most (omega arith))))
    ∙ ap Some value

-- and back

pub record IsSpelled (low high : ℕ) (text : List ℕ) : Type 0 where
  pub spelled : text ≡ decimal (value_of text)
  pub least : low ≤ value_of text
  pub most : value_of text ≤ high

some-test : (b : Bool) (v : ℕ) → is_some (if b then Some v else None) ≡ true → b ≡ true
some-test true v some = refl
some-test false v some = cc

single : (text : List ℕ) → 0 < length text → is_padded text ≡ false → get_or text 0 0 ≡ 48 → length text ≡ 1
single text some unpadded zero =
    ⊎_elim
    (λ other. absurd (eqb-false (get_or text 0 0) 48 other zero))
    (λ one. let most = ltb-false 1 (length text) one in omega arith)
    (and_cases (get_or text 0 0 == 48) (nat_lt 1 (length text)) unpadded)

pub number_within-spelled : (low high : ℕ) (text : List ℕ) → high < 2 ^ 64 → is_some (number_within low high text) ≡ true
    → IsSpelled low high text
number_within-spelled low high text small some =
    let v = value_of text in
    let (number, within) = and_parts (is_number text) (nat_le low v && nat_le v high)
    (some-test (is_number text && (nat_le low v && nat_le v high)) v some) in
    let (least, most) = and_parts (nat_le low v) (nat_le v high) within in
    let (filled, rest) = and_parts (not (length text == 0)) (not (is_padded text) && list_all is_digit text) number in
    let (unpadded, digits) = and_parts (not (is_padded text)) (list_all is_digit text) rest in
    let long = eqb-false (length text) 0 (not-true (length text == 0) filled) in
    let at_most = leb-true v high most in
    record {
      spelled = sym (decimal-digits_value own text digits (omega arith)
          (single text (omega arith) (not-true (is_padded text) unpadded)) (omega arith));
      least = leb-true low v least;
      most = at_most;
    }
