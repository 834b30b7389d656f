-- Texts without the blanks at their ends.
use Rattle.std.proofs.Common.{◌≡◌, ◌≢◌, ◌⊎◌, ⊎_elim, inl, inr, ℕ, suc, ◌+◌, ◌-◌, Bool, true, false, ◌==◌, cond, List, [], ◌∷◌, ◌++◌, length, take, drop, reverse, refl, sym, ap, subst, ◌∙◌, length-take, arith}
use Rattle.std.specs.List.{prefix_len, suffix_len}
use Rattle.std.proofs.lemmas.Bool.{and_parts, and_from, eq-eqb, ne_eqb, cond-true, cond-false}
use Rattle.std.proofs.Math.Seq.{drop-append-add}
use Rattle.std.proofs.lemmas.List.{reverse-append, length-reverse}
use Rattle.std.proofs.lemmas.List.Sums.{suffix_len-le-length}
use Rattle.std.proofs.lemmas.List.Folds.{prefix_len-append}
use Rattle.opus_sdp.specs.Text.{is_blank, trim_start, trim_end, trim}
use Rattle.opus_sdp.specs.Grammar.{are_blank}
use Rattle.opus_sdp.proofs.TextLemmas.{prefix_len-all}

-- the blanks at the end, with one byte more in front

suffix_len-cons : (b : ℕ) (text : List ℕ) → suffix_len is_blank (b ∷ text)
    ≡ cond (suffix_len is_blank text == length text) (length text + cond (is_blank b) 1 0) (suffix_len is_blank text)
suffix_len-cons b text =
    ap (prefix_len is_blank) (reverse-append (b ∷ []) text) ∙ prefix_len-append is_blank (reverse text) (b ∷ [])
    ∙ ap (λ n. cond (suffix_len is_blank text == n) (n + cond (is_blank b) 1 0) (suffix_len is_blank text)) (length-reverse text)

-- what is left, with one byte more in front

left-none : (b : ℕ) (text : List ℕ) (blank : Bool)
    → take (suc (length text) - (length text + cond blank 1 0)) (b ∷ text) ≡ cond blank [] (b ∷ [])
left-none b text true = let none : suc (length text) - (length text + 1) ≡ 0 = omega arith in rw none refl
left-none b text false = let one : suc (length text) - (length text + 0) ≡ 1 = omega arith in rw one refl

pub trim_end-cons_none : (b : ℕ) (text : List ℕ) → trim_end text ≡ [] → trim_end (b ∷ text) ≡ cond (is_blank b) [] (b ∷ [])
trim_end-cons_none b text none =
    let within = suffix_len-le-length is_blank text in
    let empty = ap length none in
    let all : suffix_len is_blank text ≡ length text = omega (arith, length-take (length text - suffix_len is_blank text) text) in
    let more = suffix_len-cons b text ∙ cond-true _ _ _ (eq-eqb (suffix_len is_blank text) (length text) all) in
    ap (λ n. take (suc (length text) - n) (b ∷ text)) more ∙ left-none b text (is_blank b)

pub trim_end-cons_some : (b : ℕ) (text : List ℕ) → trim_end text ≢ [] → trim_end (b ∷ text) ≡ b ∷ trim_end text
trim_end-cons_some b text some =
    let within = suffix_len-le-length is_blank text in
    let left : suffix_len is_blank text ≢ length text =
    λ all. let none : length text - suffix_len is_blank text ≡ 0 = omega arith in some (ap (λ n. take n text) none) in
    let same = suffix_len-cons b text ∙ cond-false _ _ _ (ne_eqb (suffix_len is_blank text) (length text) left) in
    let size : suc (length text) - suffix_len is_blank text ≡ suc (length text - suffix_len is_blank text) = omega arith in
    ap (λ n. take (suc (length text) - n) (b ∷ text)) same ∙ ap (λ n. take n (b ∷ text)) size

-- blanks alone

pub blank-first : (b : ℕ) (text : List ℕ) → are_blank (b ∷ text) ≡ true → (is_blank b ≡ true) × (are_blank text ≡ true)
blank-first b text blank = and_parts (is_blank b) (are_blank text) blank

pub trim_end-blank : (text : List ℕ) → are_blank text ≡ true → trim_end text ≡ []
trim_end-blank [] blank = refl
trim_end-blank (b ∷ text) blank =
    let (first, rest) = blank-first b text blank in
    trim_end-cons_none b text (trim_end-blank text rest) ∙ cond-true _ _ _ first

pub trim_start-blank : (text more : List ℕ) → are_blank text ≡ true → trim_start (text ++ more) ≡ trim_start more
trim_start-blank text more blank =
    ap (λ n. drop n (text ++ more)) (prefix_len-all is_blank text more blank) ∙ drop-append-add text more (prefix_len is_blank more)

-- blanks at the end are dropped, and what stands in front of a text of which something is left stays

empty_or_not : (text : List ℕ) → (text ≡ []) ⊎ (text ≢ [])
empty_or_not [] = inl refl
empty_or_not (b ∷ text) = inr (λ e. cc)

pub trim_end-append_none : (text more : List ℕ) → trim_end more ≡ [] → trim_end (text ++ more) ≡ trim_end text
trim_end-append_none [] more none = none
trim_end-append_none (b ∷ text) more none =
    let same = trim_end-append_none text more none in
    ⊎_elim
    (λ empty. trim_end-cons_none b (text ++ more) (same ∙ empty) ∙ sym (trim_end-cons_none b text empty))
    (λ some. trim_end-cons_some b (text ++ more) (λ empty. some (sym same ∙ empty)) ∙ ap (λ l. b ∷ l) same
    ∙ sym (trim_end-cons_some b text some))
    (empty_or_not (trim_end text))

more_some : (text more : List ℕ) → more ≢ [] → text ++ more ≢ []
more_some [] more some empty = some empty
more_some (b ∷ text) more some empty = cc

pub trim_end-append_some : (text more : List ℕ) → trim_end more ≢ [] → trim_end (text ++ more) ≡ text ++ trim_end more
trim_end-append_some [] more some = refl
trim_end-append_some (b ∷ text) more some =
    let same = trim_end-append_some text more some in
    trim_end-cons_some b (text ++ more) (λ empty. more_some text (trim_end more) some (sym same ∙ empty)) ∙ ap (λ l. b ∷ l) same

-- a byte that is no blank stays
pub trim_end-at : (b : ℕ) (text : List ℕ) → is_blank b ≡ false → trim_end (b ∷ text) ≡ b ∷ trim_end text
trim_end-at b text no_blank =
    ⊎_elim
    (λ empty. trim_end-cons_none b text empty ∙ cond-false _ _ _ no_blank ∙ ap (λ l. b ∷ l) (sym empty))
    (trim_end-cons_some b text)
    (empty_or_not (trim_end text))

pub trim_end-some : (b : ℕ) (text : List ℕ) → is_blank b ≡ false → trim_end (b ∷ text) ≢ []
trim_end-some b text no_blank empty = let e = sym (trim_end-at b text no_blank) ∙ empty in cc

-- a text is blanks, then what is left, and blanks again

taken-at : (b : ℕ) (text : List ℕ) (blank : Bool) → is_blank b ≡ blank
    → are_blank (take (prefix_len is_blank text) text) ≡ true
    → are_blank (take (cond blank (1 + prefix_len is_blank text) 0) (b ∷ text)) ≡ true
taken-at b text true is rest =
    let more : 1 + prefix_len is_blank text ≡ suc (prefix_len is_blank text) = omega arith in
    rw more (and_from (is_blank b) (are_blank (take (prefix_len is_blank text) text)) is rest)
taken-at b text false is rest = refl

pub blank-taken : (text : List ℕ) → are_blank (take (prefix_len is_blank text) text) ≡ true
blank-taken [] = refl
blank-taken (b ∷ text) = taken-at b text (is_blank b) refl (blank-taken text)

-- the text is this with blanks behind it
abbrev pub EndsBlank : List ℕ → List ℕ → Type 0
EndsBlank text left = (after : List ℕ) × (are_blank after ≡ true) × (text ≡ left ++ after)

ends-none : (b : ℕ) (text : List ℕ) (blank : Bool) → is_blank b ≡ blank → are_blank text ≡ true
    → EndsBlank (b ∷ text) (cond blank [] (b ∷ []))
ends-none b text true is rest = (b ∷ text, and_from (is_blank b) (are_blank text) is rest, refl)
ends-none b text false is rest = (text, rest, refl)

pub trim_end-split : (text : List ℕ) → EndsBlank text (trim_end text)
trim_end-split [] = ([], refl, refl)
trim_end-split (b ∷ text) =
    let (after, blank, are) = trim_end-split text in
    ⊎_elim
    (λ empty. subst (EndsBlank (b ∷ text)) (sym (trim_end-cons_none b text empty))
    (ends-none b text (is_blank b) refl (subst (λ l. are_blank l ≡ true) (sym (are ∙ ap (λ l. l ++ after) empty)) blank)))
    (λ some. subst (EndsBlank (b ∷ text)) (sym (trim_end-cons_some b text some)) (after, blank, ap (λ l. b ∷ l) are))
    (empty_or_not (trim_end text))

pub trim_end-trim_end : (text : List ℕ) → trim_end (trim_end text) ≡ trim_end text
trim_end-trim_end text =
    let (after, blank, are) = trim_end-split text in
    sym (ap trim_end are ∙ trim_end-append_none (trim_end text) after (trim_end-blank after blank))

-- what is left begins with no blank
pub record BeginsWith (b : ℕ) (rest text : List ℕ) : Type 0 where
  pub is : text ≡ b ∷ rest
  pub no_blank : is_blank b ≡ false

abbrev pub IsStart : List ℕ → Type 0
IsStart text = (text ≡ []) ⊎ ((b : ℕ) × (rest : List ℕ) × BeginsWith b rest text)

start-at : (b : ℕ) (text : List ℕ) (blank : Bool) → is_blank b ≡ blank → IsStart (trim_start text)
    → IsStart (drop (cond blank (1 + prefix_len is_blank text) 0) (b ∷ text))
start-at b text true is rest =
    let more : 1 + prefix_len is_blank text ≡ suc (prefix_len is_blank text) = omega arith in rw more rest
start-at b text false is rest = inr (b, text, record { is = refl; no_blank = is })

pub trim_start-begins : (text : List ℕ) → IsStart (trim_start text)
trim_start-begins [] = inl refl
trim_start-begins (b ∷ text) = start-at b text (is_blank b) refl (trim_start-begins text)

pub trim_start-at : (b : ℕ) (rest : List ℕ) → is_blank b ≡ false → trim_start (b ∷ rest) ≡ b ∷ rest
trim_start-at b rest no_blank = ap (λ n. drop n (b ∷ rest)) (cond-false _ _ _ no_blank)

start-trimmed : (text : List ℕ) → IsStart text → trim_start (trim_end text) ≡ trim_end text
start-trimmed text (inl empty) = rw empty refl
start-trimmed text (inr (b, rest, begins)) =
    let left = ap trim_end begins.is ∙ trim_end-at b rest begins.no_blank in
    ap trim_start left ∙ trim_start-at b (trim_end rest) begins.no_blank ∙ sym left

pub trim-trim : (text : List ℕ) → trim (trim text) ≡ trim text
trim-trim text =
    ap trim_end (start-trimmed (trim_start text) (trim_start-begins text)) ∙ trim_end-trim_end (trim_start text)

-- a text without blanks at its ends is empty, or begins with no blank and ends so

pub record IsBare (b : ℕ) (rest text : List ℕ) : Type 0 where
  pub is : text ≡ b ∷ rest
  pub no_blank : is_blank b ≡ false
  pub ended : trim_end text ≡ text

bare-at : (text : List ℕ) → trim text ≡ text → IsStart (trim_start text)
    → (text ≡ []) ⊎ ((b : ℕ) × (rest : List ℕ) × IsBare b rest text)
bare-at text bare (inl empty) = inl (sym bare ∙ ap trim_end empty)
bare-at text bare (inr (b, rest, begins)) =
    let is : text ≡ b ∷ trim_end rest = sym bare ∙ ap trim_end begins.is ∙ trim_end-at b rest begins.no_blank in
    let start : trim_start text ≡ text = ap trim_start is ∙ trim_start-at b (trim_end rest) begins.no_blank ∙ sym is in
    inr (b, trim_end rest, record { is = is; no_blank = begins.no_blank; ended = sym (ap trim_end start) ∙ bare })

pub trim-bare : (text : List ℕ) → trim text ≡ text → (text ≡ []) ⊎ ((b : ℕ) × (rest : List ℕ) × IsBare b rest text)
trim-bare text bare = bare-at text bare (trim_start-begins text)
