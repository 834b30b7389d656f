-- What std's conversions say of a text, in this crate's words.
use Rattle.std.proofs.Common.{◌≡◌, ◌≢◌, ◌<◌, ◌≤◌, ℕ, ◌^◌, true, false, not, ◌==◌, ◌&&◌, nat_le, List, length, slice_index, Ok, Err, Some, None, sym, ap, ◌∙◌, arith}
use Rattle.std.specs.List.{list_all}
use Rattle.std.specs.Str.{IsUtf8}
use Rattle.std.specs.Str.Parse.{ParsesUnsigned}
use Rattle.std.proofs.lemmas.Str.{IsUtf8-from_ascii}
use Rattle.std.proofs.lemmas.Fmt.{IsAscii-from_digits}
use Rattle.std.proofs.lemmas.Str.Parse.{parse_plain}
use Rattle.std.proofs.lemmas.Bool.{and_parts, and_from, cond-true, cond-false, not-true, not_from_false, eqb-false, ne_eqb, leb-true, le-leb, false_from_ne_true}
use Rattle.text_numbers.specs.Number.{is_digit, is_padded, is_number, value_of, number_within}
use Rattle.text_numbers.proofs.NumberLemmas.{own}

-- the parts of a number that lies within bounds
pub record IsWithin (least most : ℕ) (text : List ℕ) : Type 0 where
  pub unpadded : is_padded text ≡ false
  pub digits : list_all is_digit text ≡ true
  pub some : 0 < length text
  pub low : least ≤ value_of text
  pub high : value_of text ≤ most

within_parts : (least most : ℕ) (text : List ℕ)
    → (is_number text && (nat_le least (value_of text) && nat_le (value_of text) most)) ≡ true → IsWithin least most text
within_parts least most text t =
    let v = value_of text in
    let (number, within) = and_parts (is_number text) (nat_le least v && nat_le v most) t in
    let (low, high) = and_parts (nat_le least v) (nat_le v most) within in
    let (filled, rest) = and_parts (not (length text == 0)) (not (is_padded text) && list_all is_digit text) number in
    let (unpadded, digits) = and_parts (not (is_padded text)) (list_all is_digit text) rest in
    let long = eqb-false (length text) 0 (not-true (length text == 0) filled) in
    record {
      unpadded = not-true (is_padded text) unpadded;
      digits = digits;
      some = omega arith;
      low = leb-true least v low;
      high = leb-true v most high;
    }

-- where those parts can't all be, the text writes no number within the bounds
pub none_within : (least most : ℕ) (text : List ℕ) → (IsWithin least most text → ⊥) → number_within least most text ≡ None
none_within least most text never =
    cond-false _ _ _ (false_from_ne_true (is_number text && (nat_le least (value_of text) && nat_le (value_of text) most)) (λ t. never (within_parts least most text t)))

pub some_within : (least most : ℕ) (text : List ℕ) → IsWithin least most text → number_within least most text ≡ Some (value_of text)
some_within least most text w =
    let v = value_of text in
    let filled = not_from_false _ (ne_eqb (length text) 0 (λ none. omega (arith, w.some))) in
    cond-true _ _ _ (and_from _ _ (and_from _ _ filled (and_from _ _ (not_from_false _ w.unpadded) w.digits))
    (and_from _ _ (le-leb least v w.low) (le-leb v most w.high)))

-- a text that isn't UTF-8 writes no number
pub none-not_utf8 : (least most : ℕ) (text : List ℕ) → ¬ (IsUtf8 text) → number_within least most text ≡ None
none-not_utf8 least most text not_utf8 = none_within least most text (λ w. not_utf8 (IsUtf8-from_ascii text (IsAscii-from_digits text (own.to text w.digits))))

-- what a plain text's conversion says

-- std reads the number n; which errors it has makes no difference here
abbrev pub Parsed : List ℕ → ℕ → Type 0
Parsed text n = ParsesUnsigned {E = ⊥} 32 10 text (Ok n)

plain_parts : (text : List ℕ) → (not (slice_index text 0 == 43) && not (is_padded text)) ≡ true
    → (slice_index text 0 ≢ 43) × (is_padded text ≡ false)
plain_parts text plain =
    let (unsigned, unpadded) = and_parts (not (slice_index text 0 == 43)) (not (is_padded text)) plain in
    (eqb-false (slice_index text 0) 43 (not-true (slice_index text 0 == 43) unsigned), not-true (is_padded text) unpadded)

pub some-parsed : (least most n : ℕ) (text : List ℕ)
    → (not (slice_index text 0 == 43) && not (is_padded text)) ≡ true
    → Parsed text n → least ≤ n → n ≤ most → number_within least most text ≡ Some n
some-parsed least most n text plain parsed low high =
    let p = plain_parts text plain in
    let ((digits, some, fits), value) = parse_plain own {E = ⊥} 32 text (Ok n) parsed p.0 in
    some_within least most text (record {
      unpadded = p.1;
      digits = digits;
      some = some;
      low = omega (arith, value);
      high = omega (arith, value);
    })
    ∙ ap Some (sym value)

pub none-parsed : (least most n : ℕ) (text : List ℕ)
    → (not (slice_index text 0 == 43) && not (is_padded text)) ≡ true
    → Parsed text n → ((least ≤ n) × (n ≤ most) → ⊥) → number_within least most text ≡ None
none-parsed least most n text plain parsed out =
    let value = (parse_plain own {E = ⊥} 32 text (Ok n) parsed (plain_parts text plain).0).1 in
    none_within least most text (λ w. out (omega (arith, value, w.low), omega (arith, value, w.high)))

pub none-not_parsed : {E : Type 0} (e : E) (least most : ℕ) (text : List ℕ)
    → (not (slice_index text 0 == 43) && not (is_padded text)) ≡ true
    → ParsesUnsigned {E = E} 32 10 text (Err e) → most < 2 ^ 32 → number_within least most text ≡ None
none-not_parsed e least most text plain parsed fits =
    none_within least most text (λ w. parse_plain own 32 text (Err e) parsed (plain_parts text plain).0 (w.digits, w.some, omega (arith, fits, w.high)))
