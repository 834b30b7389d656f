-- The laws of the two small forms.
use Rattle.std.proofs.Common.{◌≡◌, ℕ, suc, ◌+◌, List, [], ◌∷◌, ◌++◌, take, drop, length, refl, sym, ap, ◌∙◌, subst, length-append, append_assoc, arith}
use Rattle.std.specs.declared.option.Option.{Option}
use Rattle.std.proofs.Math.Seq.{take-append_seam, drop-append_seam}
use Rattle.job_loop.specs.Shown.{Shown}
use Rattle.job_loop.specs.Forms.{Begins}
use Rattle.job_loop.specs.Samples.{spelled, record_at, records_at, IsPart, missing, LengthFront, LengthSettles, LengthEnds, LengthStands, rest_kept, SizeSettles, SizeEnds}

abbrev first_of : List ℕ → ℕ
first_of [] = 0
first_of (x ∷ xs) = x

abbrev behind_first : List ℕ → List ℕ
behind_first [] = []
behind_first (x ∷ xs) = xs

-- a record that two lists begin with
same_record : (p q xs ys : List ℕ) → length p ∷ (p ++ xs) ≡ length q ∷ (q ++ ys) → (p ≡ q) × (xs ≡ ys)
same_record p q xs ys is =
    let size : length p ≡ length q = ap first_of is in
    let rest : p ++ xs ≡ q ++ ys = ap behind_first is in (
      sym (take-append_seam p xs) ∙ ap (take (length p)) rest ∙ ap (λ n. take n (q ++ ys)) size ∙ take-append_seam q ys,
      sym (drop-append_seam p xs) ∙ ap (drop (length p)) rest ∙ ap (λ n. drop n (q ++ ys)) size ∙ drop-append_seam q ys,
    )

-- nothing that a whole record begins is a part of one
whole_is_no_part : (p xs rest : List ℕ) → length p ∷ (p ++ xs) ≡ rest → IsPart rest → ⊥
whole_is_no_part p xs rest is part =
    let short = subst IsPart (sym is) part in
    absurd (omega (arith, short, length-append p xs))

begins_at : (at : ℕ) (ps qs : List (List ℕ)) (rest rest' more : List ℕ)
    → (spelled ps ++ rest) ++ more ≡ spelled qs ++ rest' → IsPart rest' → Begins (records_at at ps) (records_at at qs)
begins_at at [] qs rest rest' more is part = (records_at at qs, refl)
begins_at at (p ∷ ps) [] rest rest' more is part =
    absurd (whole_is_no_part p ((spelled ps ++ rest) ++ more) rest'
    (ap (λ l. length p ∷ l) (sym (append_assoc p (spelled ps ++ rest) more)
    ∙ ap (λ l. l ++ more) (sym (append_assoc p (spelled ps) rest))) ∙ is) part)
begins_at at (p ∷ ps) (q ∷ qs) rest rest' more is part =
    let same = same_record p q ((spelled ps ++ rest) ++ more) (spelled qs ++ rest')
    (ap (λ l. length p ∷ l) (sym (append_assoc p (spelled ps ++ rest) more)
    ∙ ap (λ l. l ++ more) (sym (append_assoc p (spelled ps) rest))) ∙ is
    ∙ ap (λ l. length q ∷ l) (append_assoc q (spelled qs) rest')) in
    let behind = begins_at (at + suc (length p)) ps qs rest rest' more same.1 part in (
      behind.0,
      ap (λ p. record_at at p ∷ records_at (at + suc (length p)) qs) (sym same.0)
          ∙ ap (λ l. record_at at p ∷ l) behind.1,
    )

same_at : (at : ℕ) (ps qs : List (List ℕ)) (rest rest' : List ℕ) → spelled ps ++ rest ≡ spelled qs ++ rest'
    → IsPart rest → IsPart rest' → (records_at at ps ≡ records_at at qs) × (rest ≡ rest')
same_at at [] [] rest rest' is part part' = (refl, is)
same_at at [] (q ∷ qs) rest rest' is part part' =
    absurd (whole_is_no_part q (spelled qs ++ rest') rest
    (ap (λ l. length q ∷ l) (sym (append_assoc q (spelled qs) rest')) ∙ sym is) part)
same_at at (p ∷ ps) [] rest rest' is part part' =
    absurd (whole_is_no_part p (spelled ps ++ rest) rest'
    (ap (λ l. length p ∷ l) (sym (append_assoc p (spelled ps) rest)) ∙ is) part')
same_at at (p ∷ ps) (q ∷ qs) rest rest' is part part' =
    let same = same_record p q (spelled ps ++ rest) (spelled qs ++ rest')
    (ap (λ l. length p ∷ l) (sym (append_assoc p (spelled ps) rest)) ∙ is
    ∙ ap (λ l. length q ∷ l) (append_assoc q (spelled qs) rest')) in
    let behind = same_at (at + suc (length p)) ps qs rest rest' same.1 part part' in (
      ap (λ l. record_at at p ∷ l) behind.0
          ∙ ap (λ p. record_at at p ∷ records_at (at + suc (length p)) qs) same.0,
      behind.1,
    )

begins_same : {R : Type 0} → (rs rs' ss ss' : List R) → rs ≡ rs' → ss ≡ ss' → Begins rs' ss' → Begins rs ss
begins_same rs rs' ss ss' a b begins = (begins.0, b ∙ begins.1 ∙ ap (λ l. l ++ begins.0) (sym a))

front_grows : (h more rest rest' : List ℕ) (rs ss : List (Shown ℕ)) → LengthFront h rs rest
    → LengthFront (h ++ more) ss rest' → Begins rs ss
front_grows h more rest rest' rs ss a b =
    begins_same rs (records_at 0 a.whole) ss (records_at 0 b.whole) a.records_are b.records_are
    (begins_at 0 a.whole b.whole rest rest' more (ap (λ l. l ++ more) (sym a.parts) ∙ b.parts) b.part)

pub length_grows : (h more : List ℕ) (rs ss : List (Shown ℕ)) → LengthSettles h rs → LengthSettles (h ++ more) ss
    → Begins rs ss
length_grows h more rs ss a b = front_grows h more a.0 b.0 rs ss a.1 b.1

pub length_ends_grow : (h more : List ℕ) (rs ss : List (Shown ℕ)) (cut : Option ℕ) → LengthSettles h rs
    → LengthEnds (h ++ more) ss cut → Begins rs ss
length_ends_grow h more rs ss cut a b = front_grows h more a.0 b.0 rs ss a.1 b.1

pub length_ends_once : (h : List ℕ) (rs ss : List (Shown ℕ)) (a b : Option ℕ) → LengthEnds h rs a
    → LengthEnds h ss b → (rs ≡ ss) × (a ≡ b)
length_ends_once h rs ss a b p q =
    let same = same_at 0 p.1.whole q.1.whole p.0 q.0 (sym p.1.parts ∙ q.1.parts) p.1.part q.1.part in
    (p.1.records_are ∙ same.0 ∙ sym q.1.records_are, p.2 ∙ ap missing same.1 ∙ sym q.2)

pub size_grows : (h more : List ℕ) (rs ss : List (Shown ℕ)) → SizeSettles h rs → SizeSettles (h ++ more) ss
    → Begins rs ss
size_grows h more rs ss a b = (ss, ap (λ l. l ++ ss) (sym a))

pub size_ends_grow : (h more : List ℕ) (rs ss : List (Shown ℕ)) (cut : Option ℕ) → SizeSettles h rs
    → SizeEnds (h ++ more) ss cut → Begins rs ss
size_ends_grow h more rs ss cut a b = (ss, ap (λ l. l ++ ss) (sym a))

pub size_ends_once : (h : List ℕ) (rs ss : List (Shown ℕ)) (a b : Option ℕ) → SizeEnds h rs a → SizeEnds h ss b
    → (rs ≡ ss) × (a ≡ b)
size_ends_once h rs ss a b p q = (p.0 ∙ sym q.0, p.1 ∙ sym q.1)

pub length_settled : (kept : List ℕ) (need : ℕ) (h : List ℕ) (rs : List (Shown ℕ)) → LengthStands kept need h rs
    → LengthSettles h rs
length_settled kept need h rs stands = (rest_kept need kept, stands.front)
