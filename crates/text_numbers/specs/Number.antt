-- Numbers in decimal digits, without a sign, and without a leading zero unless the number is 0.
use Rattle.std.specs.Prelude.{ℕ, ◌+◌, ◌-◌, ◌*◌, ◌==◌, ◌&&◌, Bool, not, List, length, slice_index}
use Rattle.std.specs.Prelude.{Option, Some, None, if◌then◌else◌, fold, nat_le, nat_lt}
use Rattle.std.specs.List.{list_all}

-- a decimal digit, `0` (48) to `9` (57)
abbrev pub is_digit : ℕ → Bool
is_digit c = nat_le 48 c && nat_le c 57

-- a leading zero that doesn't stand alone
abbrev pub is_padded : List ℕ → Bool
is_padded text = (slice_index text 0 == 48) && nat_lt 1 (length text)

-- digits alone, with no sign and no separator; at least one, and a leading zero only where it stands alone
abbrev pub is_number : List ℕ → Bool
is_number text = not (length text == 0) && (not (is_padded text) && list_all is_digit text)

-- the number that decimal digits write
abbrev pub value_of : List ℕ → ℕ
value_of digits = fold (λ n c. n * 10 + (c - 48)) 0 digits

-- the number that the text writes, where it lies from `least` to `most`
abbrev pub number_within : ℕ → ℕ → List ℕ → Option ℕ
number_within least most text =
    if is_number text && (nat_le least (value_of text) && nat_le (value_of text) most)
    then Some (value_of text) else None
