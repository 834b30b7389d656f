-- What the job writes, read again; and an input as its lines.
use Rattle.std.proofs.Common.{◌≡◌, ◌⊎◌, ℕ, suc, ◌+◌, Bool, true, false, not, ◌==◌, List, [], ◌∷◌, ◌++◌, length, Option, None, inl, inr, refl, sym, ap, ◌∙◌, append_assoc, append-nil, map, arith}
use Rattle.std.specs.List.{list_all}
use Rattle.std.proofs.lemmas.Bool.{and_parts, and_from}
use Rattle.std.proofs.lemmas.List.Folds.{list_all-append}
use Rattle.std.proofs.lemmas.List.Concat.{flat_map-append}
use Rattle.job_loop.specs.Shown.{Shown}
use Rattle.job_loop.specs.Meaning.{Run, going, broke, run_text, adds, runs, opened, closes, outcome, end_of}
use Rattle.job_loop.specs.declared.input_end.InputEnd.{InputEnd}
use Rattle.job_loop.specs.declared.input_end.InputEnd.TheVariants.{Closed}
use Rattle.job_loop.proofs.RunLemmas.{runs-broke}
use Rattle.opus_sdp.specs.Text.{is_line}
use Rattle.text_jobs.specs.declared.line.Line.{Line}
use Rattle.text_jobs.specs.declared.line.NoCut.{NoCut}
use Rattle.text_jobs.specs.declared.refusal.SdpRefusal.{SdpRefusal}
use Rattle.text_jobs.specs.Lines.{ended, joined, lines_at, LineFront, last_line, LineEnds}
use Rattle.text_jobs.specs.Sdp.{sdp, sdp_step}
use Rattle.text_jobs.proofs.SdpLemmas.{IsKept, Becomes, nothing, prints, refuses, becomes}

-- ---- the lines of an input

abbrev are_lines : List (Shown Line) → Bool
are_lines rs = list_all (λ r. is_line r.bytes) rs

whole-lines : (at : ℕ) (texts : List (List ℕ)) → list_all is_line texts ≡ true → are_lines (lines_at at texts) ≡ true
whole-lines at [] are = refl
whole-lines at (text ∷ texts) are =
    let (first, rest) = and_parts (is_line text) (list_all is_line texts) are in
    and_from (is_line text) (are_lines (lines_at (at + suc (length text)) texts)) first
    (whole-lines (at + suc (length text)) texts rest)

last-lines : (at : ℕ) (rest : List ℕ) → is_line rest ≡ true → are_lines (last_line at rest) ≡ true
last-lines at [] line = refl
last-lines at (b ∷ rest) line = and_from (is_line (b ∷ rest)) true line refl

input-lines : (x : List ℕ) (rs : List (Shown Line)) (cut : Option NoCut) → LineEnds x rs cut → are_lines rs ≡ true
input-lines x rs cut ends =
    let whole = lines_at 0 ends.0 in
    let last = last_line (length (joined ends.0)) ends.1 in
    ap are_lines ends.3 ∙ list_all-append (λ r. is_line r.bytes) whole last
    ∙ and_from (are_lines whole) (are_lines last) (whole-lines 0 ends.0 ends.2.lines)
    (last-lines (length (joined ends.0)) ends.1 ends.2.last)

-- ---- what is written is printed lines, each of which is printed as it is

abbrev pub AreKept : List (List ℕ) → Type 0
AreKept [] = Unit {0}
AreKept (text ∷ texts) = IsKept text × AreKept texts

pub record Printed (before text : List ℕ) : Type 0 where
  pub texts : List (List ℕ)
  pub kept : AreKept texts
  pub written : text ≡ before ++ joined texts

no_going : (rs : List (Shown Line)) (before text : List ℕ) (refusal : SdpRefusal) (k : ℕ)
    → runs sdp (broke before refusal) rs ≡ going text k → ⊥
no_going rs before text refusal k is =
    (let e : broke before refusal ≡ going text k = sym (runs-broke sdp before refusal rs) ∙ is in cc)

pub printed-lines : (rs : List (Shown Line)) (before text : List ℕ) (k n : ℕ) → are_lines rs ≡ true
    → runs sdp (going before k) rs ≡ going text n → Printed before text
printed-lines [] before text k n are run =
    record { texts = []; kept = tt; written = sym (ap run_text run) ∙ sym (append-nil before) }
printed-lines (r ∷ rs) before text k n are run =
    let (line, rest) = and_parts (is_line r.bytes) (are_lines rs) are in
    by_step (λ before k run. printed-lines rs before text k n rest run) (becomes k r line) where
      by_step : ((before : List ℕ) (k : ℕ) → runs sdp (going before k) rs ≡ going text n → Printed before text)
          → Becomes k (sdp_step k r) → Printed before text
      by_step next (nothing is) =
          next before (k + 1) (ap (λ t. runs sdp (going t (k + 1)) rs) (sym (append-nil before))
          ∙ ap (λ s. runs sdp (adds before s) rs) (sym is) ∙ run)
      by_step next (prints own kept is) =
          let p = next (before ++ ended own) (k + 1) (ap (λ s. runs sdp (adds before s) rs) (sym is) ∙ run) in record {
            texts = own ∷ p.texts;
            kept = (kept, p.kept);
            written = p.written ∙ append_assoc before (ended own) (joined p.texts);
          }
      by_step next (refuses refusal is) =
          absurd (no_going rs (before ++ []) text refusal n (ap (λ s. runs sdp (adds before s) rs) (sym is) ∙ run))

kept-lines : (texts : List (List ℕ)) → AreKept texts → list_all is_line texts ≡ true
kept-lines [] kept = refl
kept-lines (text ∷ texts) kept =
    and_from (is_line text) (list_all is_line texts) kept.0.line (kept-lines texts kept.1)

kept-run : (texts : List (List ℕ)) (at : ℕ) (before : List ℕ) (k : ℕ) → AreKept texts
    → (n : ℕ) × (runs sdp (going before k) (lines_at at texts) ≡ going (before ++ joined texts) n)
kept-run [] at before k kept = (k, ap (λ t. going t k) (sym (append-nil before)))
kept-run (text ∷ texts) at before k kept =
    let place = at + suc (length text) in
    let next = kept-run texts place (before ++ ended text) (k + 1) kept.1 in (
      next.0,
      ap (λ s. runs sdp (adds before s) (lines_at place texts)) (kept.0.same k at place) ∙ next.1
          ∙ ap (λ t. going t next.0) (append_assoc before (ended text) (joined texts)),
    )

run_at : (end : InputEnd NoCut) (run : Run ℕ SdpRefusal) (text : List ℕ) → closes sdp end run ≡ going text tt
    → (n : ℕ) × (run ≡ going text n)
run_at end (going own n) text is = (n, ap (λ t. going t n) (sym (append-nil own) ∙ ap run_text is))
run_at end (broke own refusal) text is = absurd (let e : broke own refusal ≡ going text tt = is in cc)

-- the output of the job over its output is the same
pub same_again : (x : List ℕ) (rs : List (Shown Line)) (cut : Option NoCut) (text : List ℕ) → LineEnds x rs cut
    → outcome sdp rs (end_of cut) ≡ going text tt
    → (ss : List (Shown Line)) × LineEnds text ss None × (outcome sdp ss Closed ≡ going text tt)
same_again x rs cut text ends is =
    let run = run_at (end_of cut) (runs sdp (opened sdp) rs) text is in
    let p = printed-lines rs [] text 0 run.0 (input-lines x rs cut ends) run.1 in
    let again = kept-run p.texts 0 [] 0 p.kept in (
      lines_at 0 p.texts,
      (
        p.texts,
        [],
        record { parts = p.written ∙ sym (append-nil (joined p.texts)); lines = kept-lines p.texts p.kept; last = refl },
        sym (append-nil (lines_at 0 p.texts)),
        refl,
      ),
      ap (closes sdp Closed) again.1 ∙ ap (λ t. going t tt) (append-nil (joined p.texts) ∙ sym p.written),
    )

-- ---- an input is its lines

pub record InputLines (x : List ℕ) : Type 0 where
  pub texts : List (List ℕ)
  pub rest : List ℕ
  pub front : LineFront x texts rest

input : (x : List ℕ) → InputLines x
input [] = record { texts = []; rest = []; front = record { parts = refl; lines = refl; last = refl } }
input (b ∷ x) = more (input x) (b == 10) refl where
  first : (texts : List (List ℕ)) (rest : List ℕ) → LineFront x texts rest → not (b == 10) ≡ true → InputLines (b ∷ x)
  first [] rest front none = record {
    texts = [];
    rest = b ∷ rest;
    front = record {
      parts = ap (λ l. b ∷ l) front.parts;
      lines = refl;
      last = and_from (not (b == 10)) (is_line rest) none front.last;
    };
  }
  first (text ∷ texts) rest front none =
      let (line, lines) = and_parts (is_line text) (list_all is_line texts) front.lines in record {
        texts = (b ∷ text) ∷ texts;
        rest = rest;
        front = record {
          parts = ap (λ l. b ∷ l) front.parts;
          lines = and_from (is_line (b ∷ text)) (list_all is_line texts) (and_from (not (b == 10)) (is_line text) none line)
              lines;
          last = front.last;
        };
      }

  more : InputLines x → (newline : Bool) → (b == 10) ≡ newline → InputLines (b ∷ x)
  more i true is =
      let byte : b ≡ 10 = grind arith in record {
        texts = [] ∷ i.texts;
        rest = i.rest;
        front = record {
          parts = ap (λ n. n ∷ x) byte ∙ ap (λ l. 10 ∷ l) i.front.parts;
          lines = and_from true (list_all is_line i.texts) refl i.front.lines;
          last = i.front.last;
        };
      }
  more i false is = first i.texts i.rest i.front (ap not is)

pub has_lines : (x : List ℕ) → (rs : List (Shown Line)) × LineEnds x rs None
has_lines x =
    let i = input x in
    (lines_at 0 i.texts ++ last_line (length (joined i.texts)) i.rest, (i.texts, i.rest, i.front, refl, refl))

bytes_of : (at : ℕ) (texts : List (List ℕ)) (more : List (Shown Line))
    → map (λ r. r.bytes) (lines_at at texts ++ more) ≡ texts ++ map (λ r. r.bytes) more
bytes_of at [] more = refl
bytes_of at (text ∷ texts) more = ap (λ l. text ∷ l) (bytes_of (at + suc (length text)) texts more)

-- the lines, each with a newline, are the input, or it with one newline more
pub lines_joined : (x : List ℕ) (rs : List (Shown Line)) (cut : Option NoCut) → LineEnds x rs cut
    → (joined (map (λ r. r.bytes) rs) ≡ x) ⊎ (joined (map (λ r. r.bytes) rs) ≡ x ++ 10 ∷ [])
lines_joined x rs cut ends = by_rest ends.1 ends.2 ends.3 where
  by_rest : (rest : List ℕ) → LineFront x ends.0 rest
      → rs ≡ lines_at 0 ends.0 ++ last_line (length (joined ends.0)) rest
      → (joined (map (λ r. r.bytes) rs) ≡ x) ⊎ (joined (map (λ r. r.bytes) rs) ≡ x ++ 10 ∷ [])
  by_rest [] front is = inl (ap (λ rs. joined (map (λ r. r.bytes) rs)) is ∙ ap joined (bytes_of 0 ends.0 [])
      ∙ ap joined (append-nil ends.0) ∙ sym (append-nil (joined ends.0)) ∙ sym front.parts)
  by_rest (b ∷ rest) front is = inr (ap (λ rs. joined (map (λ r. r.bytes) rs)) is
      ∙ ap joined (bytes_of 0 ends.0 (last_line (length (joined ends.0)) (b ∷ rest)))
      ∙ flat_map-append ended ends.0 ((b ∷ rest) ∷ [])
      ∙ ap (λ l. joined ends.0 ++ l) (append-nil (ended (b ∷ rest)))
      ∙ sym (append_assoc (joined ends.0) (b ∷ rest) (10 ∷ [])) ∙ ap (λ l. l ++ 10 ∷ []) (sym front.parts))
