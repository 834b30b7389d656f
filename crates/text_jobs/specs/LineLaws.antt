-- The laws of lines as an input of records.
use Rattle.std.proofs.Common.{◌≡◌, ℕ, suc, ◌+◌, true, false, not, ◌==◌, List, [], ◌∷◌, ◌++◌, length, Option, refl, sym, ap, ◌∙◌, append_assoc}
use Rattle.std.specs.List.{list_all}
use Rattle.std.proofs.lemmas.Bool.{and_parts}
use Rattle.job_loop.specs.Shown.{Shown}
use Rattle.job_loop.specs.Forms.{Begins}
use Rattle.opus_sdp.specs.Text.{is_line}
use Rattle.text_jobs.specs.declared.line.Line.{Line}
use Rattle.text_jobs.specs.declared.line.NoCut.{NoCut}
use Rattle.text_jobs.specs.Lines.{ended, joined, line_at, lines_at, LineFront, LineSettles, last_line, LineEnds}
use Rattle.text_jobs.specs.LineForm.{LineStands}

abbrev first_of : List ℕ → ℕ
first_of [] = 0
first_of (b ∷ bs) = b

abbrev behind_first : List ℕ → List ℕ
behind_first [] = []
behind_first (b ∷ bs) = bs

-- a newline is no byte of a line
newline_out : (b : ℕ) (text : List ℕ) → is_line (b ∷ text) ≡ true → b ≡ 10 → ⊥
newline_out b text line is =
    let first = (and_parts (not (b == 10)) (is_line text) line).0 in
    let no : not (10 == 10) ≡ true = ap (λ b. not (b == 10)) (sym is) ∙ first in
    (let e : false ≡ true = no in cc)

behind : (b : ℕ) (text : List ℕ) → is_line (b ∷ text) ≡ true → is_line text ≡ true
behind b text line = (and_parts (not (b == 10)) (is_line text) line).1

-- the line that bytes begin with
first_line : (p q xs ys : List ℕ) → is_line p ≡ true → is_line q ≡ true → p ++ 10 ∷ xs ≡ q ++ 10 ∷ ys
    → (p ≡ q) × (xs ≡ ys)
first_line [] [] xs ys pl ql is = (refl, ap behind_first is)
first_line [] (b ∷ q) xs ys pl ql is = absurd (newline_out b q ql (sym (ap first_of is)))
first_line (a ∷ p) [] xs ys pl ql is = absurd (newline_out a p pl (ap first_of is))
first_line (a ∷ p) (b ∷ q) xs ys pl ql is =
    let rest = first_line p q xs ys (behind a p pl) (behind b q ql) (ap behind_first is) in
    (ap (λ n. n ∷ p) (ap first_of is) ∙ ap (λ l. b ∷ l) rest.0, rest.1)

-- a text without a newline has no line
no_line : (p xs rest : List ℕ) → is_line rest ≡ true → p ++ 10 ∷ xs ≡ rest → ⊥
no_line [] xs [] line is = (let e : 10 ∷ xs ≡ [] = is in cc)
no_line [] xs (b ∷ rest) line is = newline_out b rest line (sym (ap first_of is))
no_line (a ∷ p) xs [] line is = (let e : a ∷ (p ++ 10 ∷ xs) ≡ [] = is in cc)
no_line (a ∷ p) xs (b ∷ rest) line is = no_line p xs rest (behind b rest line) (ap behind_first is)

-- what stands behind the first of several lines
next : (p : List ℕ) (ps : List (List ℕ)) (rest : List ℕ) → joined (p ∷ ps) ++ rest ≡ p ++ 10 ∷ (joined ps ++ rest)
next p ps rest = append_assoc (ended p) (joined ps) rest ∙ append_assoc p (10 ∷ []) (joined ps ++ rest)

next_more : (p : List ℕ) (ps : List (List ℕ)) (rest more : List ℕ)
    → (joined (p ∷ ps) ++ rest) ++ more ≡ p ++ 10 ∷ ((joined ps ++ rest) ++ more)
next_more p ps rest more = ap (λ l. l ++ more) (next p ps rest) ∙ append_assoc p (10 ∷ (joined ps ++ rest)) more

begins_at : (at : ℕ) (ps qs : List (List ℕ)) (rest rest' more : List ℕ) → list_all is_line ps ≡ true
    → list_all is_line qs ≡ true → is_line rest' ≡ true → (joined ps ++ rest) ++ more ≡ joined qs ++ rest'
    → Begins (lines_at at ps) (lines_at at qs)
begins_at at [] qs rest rest' more pl ql last is = (lines_at at qs, refl)
begins_at at (p ∷ ps) [] rest rest' more pl ql last is =
    absurd (no_line p ((joined ps ++ rest) ++ more) rest' last (sym (next_more p ps rest more) ∙ is))
begins_at at (p ∷ ps) (q ∷ qs) rest rest' more pl ql last is =
    let (p_line, ps_lines) = and_parts (is_line p) (list_all is_line ps) pl in
    let (q_line, qs_lines) = and_parts (is_line q) (list_all is_line qs) ql in
    let same = first_line p q ((joined ps ++ rest) ++ more) (joined qs ++ rest') p_line q_line
    (sym (next_more p ps rest more) ∙ is ∙ next q qs rest') in
    let at' = at + suc (length p) in
    let rest_begins = begins_at at' ps qs rest rest' more ps_lines qs_lines last same.1 in (
      rest_begins.0,
      ap (λ p. line_at at (at + suc (length p)) p ∷ lines_at (at + suc (length p)) qs) (sym same.0)
          ∙ ap (λ l. line_at at at' p ∷ l) rest_begins.1,
    )

same_at : (ps qs : List (List ℕ)) (rest rest' : List ℕ) → list_all is_line ps ≡ true
    → list_all is_line qs ≡ true → is_line rest ≡ true → is_line rest' ≡ true
    → joined ps ++ rest ≡ joined qs ++ rest' → (ps ≡ qs) × (rest ≡ rest')
same_at [] [] rest rest' pl ql last last' is = (refl, is)
same_at [] (q ∷ qs) rest rest' pl ql last last' is =
    absurd (no_line q (joined qs ++ rest') rest last (sym (next q qs rest') ∙ sym is))
same_at (p ∷ ps) [] rest rest' pl ql last last' is =
    absurd (no_line p (joined ps ++ rest) rest' last' (sym (next p ps rest) ∙ is))
same_at (p ∷ ps) (q ∷ qs) rest rest' pl ql last last' is =
    let (p_line, ps_lines) = and_parts (is_line p) (list_all is_line ps) pl in
    let (q_line, qs_lines) = and_parts (is_line q) (list_all is_line qs) ql in
    let same = first_line p q (joined ps ++ rest) (joined qs ++ rest') p_line q_line
    (sym (next p ps rest) ∙ is ∙ next q qs rest') in
    let rests = same_at ps qs rest rest' ps_lines qs_lines last last' same.1 in
    (ap (λ p. p ∷ ps) same.0 ∙ ap (λ l. q ∷ l) rests.0, rests.1)

begins_same : (rs rs' ss ss' : List (Shown Line)) → rs ≡ rs' → ss ≡ ss' → Begins rs' ss' → Begins rs ss
begins_same rs rs' ss ss' a b begins = (begins.0, b ∙ begins.1 ∙ ap (λ l. l ++ begins.0) (sym a))

begins_longer : (rs ss more : List (Shown Line)) → Begins rs ss → Begins rs (ss ++ more)
begins_longer rs ss more begins = (begins.0 ++ more, ap (λ l. l ++ more) begins.1 ∙ append_assoc rs begins.0 more)

fronts_begin : (h more rest rest' : List ℕ) (ps qs : List (List ℕ)) → LineFront h ps rest
    → LineFront (h ++ more) qs rest' → Begins (lines_at 0 ps) (lines_at 0 qs)
fronts_begin h more rest rest' ps qs a b =
    begins_at 0 ps qs rest rest' more a.lines b.lines b.last (ap (λ l. l ++ more) (sym a.parts) ∙ b.parts)

pub line_grows : (h more : List ℕ) (rs ss : List (Shown Line)) → LineSettles h rs → LineSettles (h ++ more) ss
    → Begins rs ss
line_grows h more rs ss a b =
    begins_same rs (lines_at 0 a.0) ss (lines_at 0 b.0) a.3 b.3 (fronts_begin h more a.1 b.1 a.0 b.0 a.2 b.2)

pub line_ends_grow : (h more : List ℕ) (rs ss : List (Shown Line)) (cut : Option NoCut) → LineSettles h rs
    → LineEnds (h ++ more) ss cut → Begins rs ss
line_ends_grow h more rs ss cut a b =
    let last = last_line (length (joined b.0)) b.1 in
    begins_same rs (lines_at 0 a.0) ss (lines_at 0 b.0 ++ last) a.3 b.3
    (begins_longer (lines_at 0 a.0) (lines_at 0 b.0) last (fronts_begin h more a.1 b.1 a.0 b.0 a.2 b.2))

pub line_ends_once : (h : List ℕ) (rs ss : List (Shown Line)) (a b : Option NoCut) → LineEnds h rs a
    → LineEnds h ss b → (rs ≡ ss) × (a ≡ b)
line_ends_once h rs ss a b p q =
    let same = same_at p.0 q.0 p.1 q.1 p.2.lines q.2.lines p.2.last q.2.last (sym p.2.parts ∙ q.2.parts) in
    let whole = λ (texts : List (List ℕ)) (rest : List ℕ). lines_at 0 texts ++ last_line (length (joined texts)) rest in
    (p.3 ∙ ap (λ texts. whole texts p.1) same.0 ∙ ap (whole q.0) same.1 ∙ sym q.3, p.4 ∙ sym q.4)

pub line_settled : (start : ℕ) (rest h : List ℕ) (rs : List (Shown Line)) → LineStands start rest h rs → LineSettles h rs
line_settled start rest h rs stands = (stands.texts, rest, stands.front, stands.records_are)
