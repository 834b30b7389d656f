-- Numbers, computed on short texts.
use Rattle.std.proofs.Common.{◌≡◌, [], codes, refl, Some, None}
use Rattle.text_numbers.specs.Number.{number_within}

nothing_is_no_number : number_within 0 127 [] ≡ None
nothing_is_no_number = refl

zero_stands_alone : number_within 0 127 (codes "0") ≡ Some 0
zero_stands_alone = refl

a_leading_zero_is_refused : number_within 0 127 (codes "01") ≡ None
a_leading_zero_is_refused = refl

a_sign_is_refused : number_within 0 127 (codes "+1") ≡ None
a_sign_is_refused = refl

the_greatest_is_taken : number_within 0 127 (codes "127") ≡ Some 127
the_greatest_is_taken = refl

one_above_is_refused : number_within 0 127 (codes "128") ≡ None
one_above_is_refused = refl

one_below_is_refused : number_within 1 48 (codes "0") ≡ None
one_below_is_refused = refl
