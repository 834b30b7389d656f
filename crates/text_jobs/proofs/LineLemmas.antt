-- From bytes that the machine is fed to lines.
use Rattle.std.proofs.Common.{◌≡◌, ℕ, zero, suc, ◌+◌, ◌-◌, ◌<◌, ◌≤◌, true, false, not, ◌==◌, slice_index, List, [], ◌∷◌, ◌++◌, length, take, length-append, refl, sym, ap, ◌∙◌, subst, append_assoc, append-nil, None, arith}
use Rattle.std.specs.List.{list_all}
use Rattle.std.proofs.Math.Seq.{take-append_seam}
use Rattle.std.proofs.lemmas.List.{take_all, take_more}
use Rattle.std.proofs.lemmas.List.Concat.{flat_map-append}
use Rattle.std.proofs.lemmas.Bool.{and_from}
use Rattle.std.proofs.lemmas.Bool.Decides.{nat_tests}
use Rattle.std.proofs.lemmas.List.Folds.{list_all-append}
use Rattle.memchr.specs.Find.{is_byte}
use Rattle.job_loop.specs.Shown.{Shown}
use Rattle.opus_sdp.specs.Text.{is_line}
use Rattle.text_jobs.specs.declared.line.Line.{Line}
use Rattle.text_jobs.specs.Lines.{ended, joined, line_at, lines_at, LineEnds}
use Rattle.text_jobs.specs.LineForm.{LineStands}

-- ---- where a newline stands

no_newline : (b : ℕ) → (is_byte 10 b ≡ true → ⊥) → not (b == 10) ≡ true
no_newline b none = not_so (b == 10) none where
  not_so : (t : _) → (t ≡ true → ⊥) → not t ≡ true
  not_so true none = absurd (none refl)
  not_so false none = refl

-- bytes among which no newline stands
pub bytes_line : (n : ℕ) (bytes : List ℕ) → n ≤ length bytes
    → ((k : ℕ) → 0 ≤ k → k < n → is_byte 10 (slice_index bytes k) ≡ true → ⊥) → is_line (take n bytes) ≡ true
bytes_line zero bytes fits none = refl
bytes_line (suc n) [] fits none = absurd (omega (arith, fits))
bytes_line (suc n) (b ∷ bytes) fits none =
    and_from (not (b == 10)) (is_line (take n bytes)) (no_newline b (none 0 (omega arith) (omega arith)))
    (bytes_line n bytes (omega (arith, fits)) (λ k low high. none (suc k) (omega arith) (omega (arith, high))))

-- all bytes, among which no newline stands
pub all_line : (bytes : List ℕ) → ((k : ℕ) → 0 ≤ k → k < length bytes → is_byte 10 (slice_index bytes k) ≡ true → ⊥)
    → is_line bytes ≡ true
all_line bytes none =
    subst (λ l. is_line l ≡ true) (take_all (length bytes) bytes (omega arith))
    (bytes_line (length bytes) bytes (omega arith) none)

-- the bytes up to a newline, and it
pub with_newline : (n : ℕ) (bytes : List ℕ) → n < length bytes → is_byte 10 (slice_index bytes n) ≡ true
    → take (n + 1) bytes ≡ ended (take n bytes)
with_newline n bytes fits is =
    let newline : slice_index bytes n ≡ 10 = grind (arith, nat_tests) in
    take_more bytes n 0 fits ∙ ap (λ b. take n bytes ++ b ∷ []) newline

-- a line without the newline that was taken with it
pub without_newline : (text : List ℕ) → take (length (ended text) - 1) (ended text) ≡ text
without_newline text =
    let size : length (ended text) - 1 ≡ length text = omega (arith, length-append text (10 ∷ [])) in
    ap (λ n. take n (ended text)) size ∙ take-append_seam text (10 ∷ [])

-- ---- lines one behind the other

lines-joined : (at : ℕ) (ps qs : List (List ℕ)) → lines_at at (ps ++ qs)
    ≡ lines_at at ps ++ lines_at (at + length (joined ps)) qs
lines-joined at [] qs = ap (λ n. lines_at n qs) (omega arith)
lines-joined at (p ∷ ps) qs =
    let next = at + suc (length p) in
    let place : next + length (joined ps) ≡ at + length (joined (p ∷ ps)) =
    omega (arith, length-append (ended p) (joined ps), length-append p (10 ∷ [])) in
    ap (λ l. line_at at next p ∷ l) (lines-joined next ps qs
    ∙ ap (λ n. lines_at next ps ++ lines_at n qs) place)

both_line : (text more : List ℕ) → is_line text ≡ true → is_line more ≡ true → is_line (text ++ more) ≡ true
both_line text more first second =
    list_all-append (λ b. not (b == 10)) text more ∙ and_from (is_line text) (is_line more) first second

-- more bytes of a line
pub stands_part : (start : ℕ) (rest h text : List ℕ) (rs : List (Shown Line)) → LineStands start rest h rs
    → is_line text ≡ true → LineStands start (rest ++ text) (h ++ text) rs
stands_part start rest h text rs s line = record {
  texts = s.texts;
  front = record {
    parts = ap (λ l. l ++ text) s.front.parts ∙ append_assoc (joined s.texts) rest text;
    lines = s.front.lines;
    last = both_line rest text s.front.last line;
  };
  records_are = s.records_are;
  start_is = s.start_is;
}

-- the last bytes of a line, and its newline
pub stands_line : (start : ℕ) (rest h text : List ℕ) (rs : List (Shown Line)) (place : ℕ) → LineStands start rest h rs
    → is_line text ≡ true → place ≡ length h + suc (length text)
    → LineStands place [] (h ++ ended text) (rs ++ line_at start place (rest ++ text) ∷ [])
stands_line start rest h text rs place s line at =
    let all = rest ++ text in
    let more : joined (s.texts ++ all ∷ []) ≡ joined s.texts ++ ended all =
    flat_map-append ended s.texts (all ∷ []) ∙ ap (λ l. joined s.texts ++ l) (append-nil (ended all)) in
    let size = ap (λ (l : List ℕ). length l) s.front.parts ∙ length-append (joined s.texts) rest in
    let own : start + suc (length all) ≡ place = omega (arith, at, size, s.start_is, length-append rest text) in
    let total = ap (λ (l : List ℕ). length l) more ∙ length-append (joined s.texts) (ended all) in
    let first : 0 + length (joined s.texts) ≡ start = omega (arith, s.start_is) in
    let here : lines_at (0 + length (joined s.texts)) (all ∷ []) ≡ line_at start place all ∷ [] =
    ap (λ n. lines_at n (all ∷ [])) first ∙ ap (λ n. line_at start n all ∷ []) own in record {
      texts = s.texts ++ all ∷ [];
      front = record {
        parts = ap (λ l. l ++ ended text) s.front.parts ∙ append_assoc (joined s.texts) rest (ended text)
            ∙ ap (λ l. joined s.texts ++ l) (sym (append_assoc rest text (10 ∷ []))) ∙ sym more
            ∙ sym (append-nil (joined (s.texts ++ all ∷ [])));
        lines = list_all-append is_line s.texts (all ∷ [])
            ∙ and_from (list_all is_line s.texts) (list_all is_line (all ∷ [])) s.front.lines
            (and_from (is_line all) true (both_line rest text s.front.last line) refl);
        last = refl;
      };
      records_are = ap (λ l. l ++ line_at start place all ∷ []) s.records_are
          ∙ sym (lines-joined 0 s.texts (all ∷ []) ∙ ap (λ l. lines_at 0 s.texts ++ l) here);
      start_is = omega (arith, total, own, s.start_is, length-append all (10 ∷ []));
    }

-- ---- the end of the input

-- no line was begun
pub ended_bare : (start : ℕ) (h : List ℕ) (rs : List (Shown Line)) → LineStands start [] h rs → LineEnds h rs None
ended_bare start h rs s = (s.texts, [], s.front, s.records_are ∙ sym (append-nil (lines_at 0 s.texts)), refl)
