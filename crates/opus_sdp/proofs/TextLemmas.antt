-- Texts whose bytes are of one kind, and where such a text ends.
use Rattle.std.proofs.Common.{◌≡◌, ℕ, suc, ◌+◌, Bool, true, not, ◌==◌, List, [], ◌∷◌, ◌++◌, length, take, drop, refl, sym, ap, ◌∙◌, arith}
use Rattle.std.specs.List.{list_all, prefix_len, position_or_len, before_first, after_first}
use Rattle.std.proofs.Math.Seq.{take-append_seam, drop-append-add}
use Rattle.std.proofs.lemmas.Bool.{and_parts, and_from, cond-true, cond-false, not_from_true}
use Rattle.std.proofs.lemmas.Bool.Decides.{nat_tests}
use Rattle.std.proofs.lemmas.List.Folds.{list_all-append}
use Rattle.opus_sdp.specs.Text.{is_blank, is_semicolon, is_equals}
use Rattle.text_numbers.specs.Number.{is_digit}
use Rattle.opus_sdp.specs.Grammar.{is_name_byte, is_value_byte}

pub list_all_weaker : (p q : ℕ → Bool) → ((b : ℕ) → p b ≡ true → q b ≡ true) → (text : List ℕ)
    → list_all p text ≡ true → list_all q text ≡ true
list_all_weaker p q weaker [] all = refl
list_all_weaker p q weaker (b ∷ text) all =
    let (first, rest) = and_parts (p b) (list_all p text) all in
    and_from (q b) (list_all q text) (weaker b first) (list_all_weaker p q weaker text rest)

pub list_all-both : (p : ℕ → Bool) (text more : List ℕ) → list_all p text ≡ true → list_all p more ≡ true
    → list_all p (text ++ more) ≡ true
list_all-both p text more first second =
    list_all-append p text more ∙ and_from (list_all p text) (list_all p more) first second

pub list_all-parts : (p : ℕ → Bool) (text more : List ℕ) → list_all p (text ++ more) ≡ true
    → (list_all p text ≡ true) × (list_all p more ≡ true)
list_all-parts p text more all =
    and_parts (list_all p text) (list_all p more) (sym (list_all-append p text more) ∙ all)

-- the bytes in front of the first that passes

pub prefix_len-all : (p : ℕ → Bool) (text more : List ℕ) → list_all p text ≡ true
    → prefix_len p (text ++ more) ≡ length text + prefix_len p more
prefix_len-all p [] more all = let e : 0 + prefix_len p more ≡ prefix_len p more = omega arith in sym e
prefix_len-all p (b ∷ text) more all =
    let (first, rest) = and_parts (p b) (list_all p text) all in
    let next = prefix_len-all p text more rest in
    let sum : 1 + prefix_len p (text ++ more) ≡ suc (length text) + prefix_len p more = omega arith in
    cond-true _ _ _ first ∙ sum

pub position-at : (p : ℕ → Bool) (text : List ℕ) (b : ℕ) (more : List ℕ) → list_all (λ x. not (p x)) text ≡ true → p b ≡ true
    → position_or_len p (text ++ b ∷ more) ≡ length text
position-at p text b more none is =
    let stop : position_or_len p (b ∷ more) ≡ 0 = cond-false _ _ _ (not_from_true (p b) is) in
    let place = prefix_len-all (λ x. not (p x)) text (b ∷ more) none in
    omega arith

pub before_first-at : (p : ℕ → Bool) (text : List ℕ) (b : ℕ) (more : List ℕ) → list_all (λ x. not (p x)) text ≡ true → p b ≡ true
    → before_first p (text ++ b ∷ more) ≡ text
before_first-at p text b more none is =
    ap (λ n. take n (text ++ b ∷ more)) (position-at p text b more none is) ∙ take-append_seam text (b ∷ more)

pub after_first-at : (p : ℕ → Bool) (text : List ℕ) (b : ℕ) (more : List ℕ) → list_all (λ x. not (p x)) text ≡ true → p b ≡ true
    → after_first p (text ++ b ∷ more) ≡ more
after_first-at p text b more none is =
    ap (λ n. drop (n + 1) (text ++ b ∷ more)) (position-at p text b more none is) ∙ drop-append-add text (b ∷ more) 1

-- kinds of bytes

pub blank-no_equals : (b : ℕ) → is_blank b ≡ true → not (is_equals b) ≡ true
blank-no_equals b blank = grind (arith, nat_tests)

pub blank-no_semicolon : (b : ℕ) → is_blank b ≡ true → not (is_semicolon b) ≡ true
blank-no_semicolon b blank = grind (arith, nat_tests)

pub blank-no_newline : (b : ℕ) → is_blank b ≡ true → not (b == 10) ≡ true
blank-no_newline b blank = grind (arith, nat_tests)

pub name-no_equals : (b : ℕ) → is_name_byte b ≡ true → not (is_equals b) ≡ true
name-no_equals b name = grind (arith, nat_tests)

pub name-no_semicolon : (b : ℕ) → is_name_byte b ≡ true → not (is_semicolon b) ≡ true
name-no_semicolon b name = grind (arith, nat_tests)

pub name-no_blank : (b : ℕ) → is_name_byte b ≡ true → not (is_blank b) ≡ true
name-no_blank b name = grind (arith, nat_tests)

pub digit-no_blank : (b : ℕ) → is_digit b ≡ true → not (is_blank b) ≡ true
digit-no_blank b digit = grind (arith, nat_tests)

pub digit-value : (b : ℕ) → is_digit b ≡ true → is_value_byte b ≡ true
digit-value b digit = grind (arith, nat_tests)

pub value-no_semicolon : (b : ℕ) → is_value_byte b ≡ true → not (is_semicolon b) ≡ true
value-no_semicolon b value = grind (arith, nat_tests)
