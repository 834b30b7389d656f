-- A parameter that is spelled is read.
use Rattle.std.proofs.Common.{◌≡◌, ◌≢◌, ◌⊎◌, inl, inr, ℕ, true, false, not, nat_lt, List, [], ◌∷◌, ◌++◌, length, append-nil, append_assoc, refl, sym, ap, ◌∙◌, arith, length-append}
use Rattle.std.specs.List.{list_all, position_or_len, before_first, after_first}
use Rattle.std.proofs.lemmas.Bool.{and_parts, and_from, lt-ltb, not-true}
use Rattle.opus_sdp.specs.Text.{is_blank, is_equals, trim_start, trim_end, trim}
use Rattle.opus_sdp.specs.Grammar.{are_blank, is_name, is_name_byte, SpellsParam}
use Rattle.opus_sdp.specs.Parts.{Part, part_at, trimmed, name_of, value_at, param_of}
use Rattle.opus_sdp.specs.Fault.{has_name}
use Rattle.opus_sdp.specs.declared.param.Param.{Param}
use Rattle.opus_sdp.proofs.TextLemmas.{list_all_weaker, list_all-both, position-at, before_first-at, after_first-at, blank-no_equals, name-no_equals, name-no_blank}
use Rattle.opus_sdp.proofs.TrimLemmas.{trim_start-blank, trim_start-at, trim_end-blank, trim_end-append_none, trim_end-append_some, trim_end-at, trim_end-some, IsBare, trim-bare}
use Rattle.opus_sdp.proofs.FaultLemmas.{same_param}

-- a name has no blank in it

pub trim_end-full : (text : List ℕ) → list_all (λ b. not (is_blank b)) text ≡ true → trim_end text ≡ text
trim_end-full [] full = refl
trim_end-full (b ∷ text) full =
    let (first, rest) = and_parts (not (is_blank b)) (list_all (λ x. not (is_blank x)) text) full in
    trim_end-at b text (not-true (is_blank b) first) ∙ ap (λ l. b ∷ l) (trim_end-full text rest)

pub trim_start-full : (text : List ℕ) → list_all (λ b. not (is_blank b)) text ≡ true → trim_start text ≡ text
trim_start-full [] full = refl
trim_start-full (b ∷ text) full =
    let (first, rest) = and_parts (not (is_blank b)) (list_all (λ x. not (is_blank x)) text) full in
    trim_start-at b text (not-true (is_blank b) first)

pub name-full : (name : List ℕ) → is_name name ≡ true → trim_end name ≡ name
name-full name is =
    let (some, bytes) = and_parts (nat_lt 0 (length name)) (list_all is_name_byte name) is in
    trim_end-full name (list_all_weaker is_name_byte (λ b. not (is_blank b)) name-no_blank name bytes)

-- a value behind blanks

value-at : (behind value : List ℕ) → are_blank behind ≡ true → trim value ≡ value
    → (value ≡ []) ⊎ ((b : ℕ) × (rest : List ℕ) × IsBare b rest value) → trim (trim_end (behind ++ value)) ≡ value
value-at behind value blank bare (inl empty) =
    let none : trim_end (behind ++ value) ≡ [] = ap (λ l. trim_end (behind ++ l)) empty
    ∙ ap trim_end (append-nil behind) ∙ trim_end-blank behind blank in
    ap trim none ∙ sym empty
value-at behind value blank bare (inr (b, rest, is)) =
    let some : trim_end value ≢ [] = λ none. trim_end-some b rest is.no_blank (sym (ap trim_end is.is) ∙ none) in
    let left = trim_end-append_some behind value some ∙ ap (λ l. behind ++ l) is.ended in
    ap trim left ∙ ap trim_end (trim_start-blank behind value blank) ∙ bare

pub value-left : (behind value : List ℕ) → are_blank behind ≡ true → trim value ≡ value
    → trim (trim_end (behind ++ value)) ≡ value
value-left behind value blank bare = value-at behind value blank bare (trim-bare value bare)

-- the whole parameter, without the blanks around it

name-first : (name more : List ℕ) → is_name name ≡ true → trim_start (name ++ more) ≡ name ++ more
name-first [] more is = cc
name-first (b ∷ name) more is =
    let (some, bytes) = and_parts (nat_lt 0 (length (b ∷ name))) (list_all is_name_byte (b ∷ name)) is in
    let (first, rest) = and_parts (is_name_byte b) (list_all is_name_byte name) bytes in
    trim_start-at b (name ++ more) (not-true (is_blank b) (name-no_blank b first))

regroup : (a b c d : List ℕ) → ((a ++ b) ++ c) ++ d ≡ a ++ ((b ++ c) ++ d)
regroup a b c d = ap (λ l. l ++ d) (append_assoc a b c) ∙ append_assoc a (b ++ c) d

abbrev pub head_of : (q : Param) (text : List ℕ) → SpellsParam q text → List ℕ
head_of q text s = q.name ++ s.between

abbrev pub tail_of : (q : Param) (text : List ℕ) → SpellsParam q text → List ℕ
tail_of q text s = trim_end (s.behind ++ q.value)

pub trim-spelled : (q : Param) (text : List ℕ) (s : SpellsParam q text)
    → trim text ≡ head_of q text s ++ 61 ∷ tail_of q text s
trim-spelled q text s =
    let head = head_of q text s in
    let core = head ++ 61 ∷ (s.behind ++ q.value) in
    let start : trim_start text ≡ core ++ s.after =
    ap trim_start s.spelled ∙ trim_start-blank s.before (core ++ s.after) s.blank_before
    ∙ ap trim_start (regroup q.name s.between (61 ∷ (s.behind ++ q.value)) s.after)
    ∙ name-first q.name ((s.between ++ 61 ∷ (s.behind ++ q.value)) ++ s.after) s.name
    ∙ sym (regroup q.name s.between (61 ∷ (s.behind ++ q.value)) s.after) in
    ap trim_end start ∙ trim_end-append_none core s.after (trim_end-blank s.after s.blank_after)
    ∙ trim_end-append_some head (61 ∷ (s.behind ++ q.value)) (trim_end-some 61 (s.behind ++ q.value) refl)
    ∙ ap (λ l. head ++ l) (trim_end-at 61 (s.behind ++ q.value) refl)

-- what is read of it

pub record Reads (q : Param) (p : Part) : Type 0 where
  pub some : nat_lt 0 (length p.text) ≡ true
  pub has : has_name p.text ≡ true
  pub param : param_of p ≡ q

reads-core : (q : Param) (p : Part) (head tail : List ℕ) → p.text ≡ head ++ 61 ∷ tail
    → list_all (λ b. not (is_equals b)) head ≡ true → trim_end head ≡ q.name → trim tail ≡ q.value → is_name q.name ≡ true
    → Reads q p
reads-core q p head tail is none named says name =
    let place = ap (position_or_len is_equals) is ∙ position-at is_equals head 61 tail none refl in
    let size = ap length is ∙ length-append head (61 ∷ tail) in
    let name_is : name_of p.text ≡ q.name =
    ap trim_end (ap (before_first is_equals) is ∙ before_first-at is_equals head 61 tail none refl) ∙ named in
    let value_is : (value_at p).text ≡ q.value =
    ap trim (ap (after_first is_equals) is ∙ after_first-at is_equals head 61 tail none refl) ∙ says in
    record {
      some = lt-ltb 0 (length p.text) (omega arith);
      has = and_from _ _ (lt-ltb (position_or_len is_equals p.text) (length p.text) (omega arith)) (ap is_name name_is ∙ name);
      param = sym (same_param p q.name q.value (sym name_is) (sym value_is));
    }

no_equals : (name between : List ℕ) → is_name name ≡ true → are_blank between ≡ true
    → list_all (λ b. not (is_equals b)) (name ++ between) ≡ true
no_equals name between is blank =
    let (some, bytes) = and_parts (nat_lt 0 (length name)) (list_all is_name_byte name) is in
    list_all-both (λ b. not (is_equals b)) name between
    (list_all_weaker is_name_byte (λ b. not (is_equals b)) name-no_equals name bytes)
    (list_all_weaker is_blank (λ b. not (is_equals b)) blank-no_equals between blank)

pub read-spelled : (q : Param) (text : List ℕ) (at : ℕ) → SpellsParam q text → Reads q (trimmed (part_at at text))
read-spelled q text at s =
    reads-core q (trimmed (part_at at text)) (head_of q text s) (tail_of q text s) (trim-spelled q text s)
    (no_equals q.name s.between s.name s.blank_between)
    (trim_end-append_none q.name s.between (trim_end-blank s.between s.blank_between) ∙ name-full q.name s.name)
    (value-left s.behind q.value s.blank_behind s.value.bare) s.name

-- and blanks alone are passed over

pub trim-blank : (text : List ℕ) → are_blank text ≡ true → trim text ≡ []
trim-blank text blank =
    let start : trim_start text ≡ [] = ap trim_start (sym (append-nil text)) ∙ trim_start-blank text [] blank in
    ap trim_end start

pub read-blank : (text : List ℕ) (at : ℕ) → are_blank text ≡ true → nat_lt 0 (length (trim text)) ≡ false
read-blank text at blank = ap (λ l. nat_lt 0 (length l)) (trim-blank text blank)
