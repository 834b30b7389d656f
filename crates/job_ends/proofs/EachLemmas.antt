-- What a job that makes something of each record by itself makes of all.
use Rattle.std.proofs.Common.{◌≡◌, ◌⊎◌, ◌↔◌, ℕ, ◌+◌, List, [], ◌∷◌, ◌++◌, length, inl, inr, refl, sym, ap, ◌∙◌, subst, append_assoc, append-nil, arith}
use Rattle.std.specs.List.{AllByRecursion}
use Rattle.job_loop.specs.Meaning.{Meaning, Run, going, broke, adds, runs, closes, outcome}
use Rattle.job_loop.specs.declared.input_end.InputEnd.{InputEnd}
use Rattle.job_loop.specs.declared.input_end.InputEnd.TheVariants as ends
use Rattle.job_loop.proofs.RunLemmas.{runs-broke}
use Rattle.job_ends.specs.declared.refusal.Refusal.{Refusal}
use Rattle.job_ends.specs.Refusal.{told, refusal_of}
use Rattle.job_ends.specs.Each.{Made, writes, refuses, made_step, each_end, each, text_of, texts_from, IsWritten, AreWritten, RefusesWith, FirstRefusedBy, IsUncut}
use Rattle.job_ends.proofs.RunLemmas.{going-text, going≢broke}

-- all records are so of which each is written so, and the other way round

pub all_written : {R W : Type 0} → (made : ℕ → R → Made W) (Good : R → Type 0)
    → ((number : ℕ) (r : R) → Good r → IsWritten (made number r)) → (number : ℕ) (rs : List R) → AllByRecursion Good rs
    → AreWritten made number rs
all_written made Good one number [] good = tt
all_written made Good one number (r ∷ rs) good = (one number r good.0, all_written made Good one (number + 1) rs good.1)

pub written_all : {R W : Type 0} → (made : ℕ → R → Made W) (Good : R → Type 0)
    → ((number : ℕ) (r : R) → IsWritten (made number r) → Good r) → (number : ℕ) (rs : List R) → AreWritten made number rs
    → AllByRecursion Good rs
written_all made Good one number [] written = tt
written_all made Good one number (r ∷ rs) written = (one number r written.0, written_all made Good one (number + 1) rs written.1)

-- what is made of each record, and how a cut is refused
module _ {R C W : Type 0} (cut : ℕ → C → Refusal W) (made : ℕ → R → Made W) where
  abbrev job : Meaning R ℕ C (Refusal W)
  job = each cut made

  -- a step

  written_step : (count : ℕ) (text : List ℕ) (m : Made W) → IsWritten m
      → adds text (made_step (told count) count m) ≡ going (text ++ text_of m) (count + 1)
  written_step count text (writes more) written = refl
  written_step count text (refuses place why) written = absurd written

  refused_step : (count : ℕ) (text : List ℕ) (m : Made W) (f : Refusal W) → RefusesWith m count f
      → adds text (made_step (told count) count m) ≡ broke text f
  refused_step count text (writes more) f refused = absurd refused
  refused_step count text (refuses place why) f refused =
      ap (λ l. broke l (refusal_of (told count) place why)) (append-nil text) ∙ ap (broke text) (sym refused)

  -- runs

  written_runs : (text : List ℕ) (count : ℕ) (rs : List R)
      → AreWritten made count rs
      → runs job (going text count) rs ≡ going (text ++ texts_from made count rs) (count + length rs)
  written_runs text count [] written =
      ap (λ l. going l count) (sym (append-nil text)) ∙ ap (going (text ++ [])) (omega arith)
  written_runs text count (r ∷ rs) written =
      let own = text_of (made count r) in
      let behind = texts_from made (count + 1) rs in
      ap (λ run. runs job run rs) (written_step count text (made count r) written.0)
      ∙ written_runs (text ++ own) (count + 1) rs written.1
      ∙ ap (λ l. going l ((count + 1) + length rs)) (append_assoc text own behind)
      ∙ ap (going (text ++ (own ++ behind))) (omega arith)

  refused_runs : (text : List ℕ) (count : ℕ) (before : List R)
      (r : R) (after : List R) (f : Refusal W) (n : ℕ) → AreWritten made count before
      → n ≡ count + length before → RefusesWith (made n r) n f
      → runs job (going text count) (before ++ r ∷ after) ≡ broke (text ++ texts_from made count before) f
  refused_runs text count [] r after f n written at refused =
      let own = subst (λ m. RefusesWith (made m r) m f) (at ∙ omega arith) refused in
      ap (λ run. runs job run after) (refused_step count text (made count r) f own)
      ∙ runs-broke job text f after ∙ ap (λ l. broke l f) (sym (append-nil text))
  refused_runs text count (s ∷ before) r after f n written at refused =
      let own = text_of (made count s) in
      ap (λ run. runs job run (before ++ r ∷ after)) (written_step count text (made count s) written.0)
      ∙ refused_runs (text ++ own) (count + 1) before r after f n written.1 (at ∙ omega arith) refused
      ∙ ap (λ l. broke l f) (append_assoc text own (texts_from made (count + 1) before))

  -- outcomes

  closing : (end : InputEnd C) (rs : List R) (run : Run ℕ (Refusal W))
      → runs job (going [] 0) rs ≡ run → outcome job rs end ≡ closes job end run
  closing end rs run e = ap (closes job end) e

  written_outcome : (rs : List R) (end : InputEnd C)
      → AreWritten made 0 rs
      → outcome job rs end ≡ adds (texts_from made 0 rs) (each_end cut (length rs) end)
  written_outcome rs end written =
      closing end rs (going (texts_from made 0 rs) (0 + length rs)) (written_runs [] 0 rs written)
      ∙ ap (λ n. adds (texts_from made 0 rs) (each_end cut n end)) (omega arith)

  pub each_refused : (rs : List R) (end : InputEnd C) (f : Refusal W)
      (at : FirstRefusedBy made rs f) → outcome job rs end ≡ broke (texts_from made 0 at.before) f
  each_refused rs end f at =
      ap (λ l. outcome job l end) at.parts
      ∙ closing end (at.before ++ at.first ∷ at.after) (broke (texts_from made 0 at.before) f)
      (refused_runs [] 0 at.before at.first at.after f (length at.before) at.written (omega arith) at.refused)

  pub each_cut : (rs : List R) (c : C) → AreWritten made 0 rs
      → outcome job rs (ends.Cut c)
      ≡ broke (texts_from made 0 rs) (cut (told (length rs)) c)
  each_cut rs c written =
      written_outcome rs (ends.Cut c) written
      ∙ ap (λ l. broke l (cut (told (length rs)) c)) (append-nil (texts_from made 0 rs))

  -- all are written, or one is the first refused

  -- from a number on
  record RefusedFrom (number : ℕ) (rs : List R) : Type 0 where
    before : List R
    first : R
    after : List R
    refusal : Refusal W
    parts : rs ≡ before ++ first ∷ after
    written : AreWritten made number before
    refused : RefusesWith (made (number + length before) first) (number + length before) refusal

  made_or : (m : Made W) (number : ℕ) → IsWritten m ⊎ ((f : Refusal W) × RefusesWith m number f)
  made_or (writes text) number = inl tt
  made_or (refuses place why) number = inr (refusal_of (told number) place why, refl)

  starts_refused : (number : ℕ) (r : R) (rs : List R) (f : Refusal W)
      → RefusesWith (made number r) number f → RefusedFrom number (r ∷ rs)
  starts_refused number r rs f refused = record {
    before = [];
    first = r;
    after = rs;
    refusal = f;
    parts = refl;
    written = tt;
    refused = subst (λ m. RefusesWith (made m r) m f) (omega arith) refused;
  }

  later_refused : (number : ℕ) (r : R) (rs : List R)
      → IsWritten (made number r) → RefusedFrom (number + 1) rs → RefusedFrom number (r ∷ rs)
  later_refused number r rs written at = record {
    before = r ∷ at.before;
    first = at.first;
    after = at.after;
    refusal = at.refusal;
    parts = ap (λ l. r ∷ l) at.parts;
    written = (written, at.written);
    refused = subst (λ m. RefusesWith (made m at.first) m at.refusal) (omega arith) at.refused;
  }

  one_more : (number : ℕ) (r : R) (rs : List R)
      → IsWritten (made number r) ⊎ ((f : Refusal W) × RefusesWith (made number r) number f)
      → AreWritten made (number + 1) rs ⊎ RefusedFrom (number + 1) rs
      → AreWritten made number (r ∷ rs) ⊎ RefusedFrom number (r ∷ rs)
  one_more number r rs (inr (f, refused)) behind = inr (starts_refused number r rs f refused)
  one_more number r rs (inl written) (inl all) = inl (written, all)
  one_more number r rs (inl written) (inr later) = inr (later_refused number r rs written later)

  written_or : (number : ℕ) (rs : List R)
      → AreWritten made number rs ⊎ RefusedFrom number rs
  written_or number [] = inl tt
  written_or number (r ∷ rs) =
      one_more number r rs (made_or (made number r) number) (written_or (number + 1) rs)

  -- where all are written

  abbrev pub IsWrittenWith : List R → InputEnd C → List ℕ → Type 0
  IsWrittenWith rs end text = AreWritten made 0 rs × IsUncut end × (text ≡ texts_from made 0 rs)

  written_at : (rs : List R) (end : InputEnd C) (text : List ℕ)
      → AreWritten made 0 rs → adds (texts_from made 0 rs) (each_end cut (length rs) end) ≡ going text tt
      → IsWrittenWith rs end text
  written_at rs ends.Closed text written e =
      (written, tt, sym (going-text _ _ tt tt e) ∙ append-nil (texts_from made 0 rs))
  written_at rs (ends.Cut c) text written e = absurd (going≢broke _ _ _ _ (sym e))
  written_at rs ends.Past text written e =
      (written, tt, sym (going-text _ _ tt tt e) ∙ append-nil (texts_from made 0 rs))

  written_by : (rs : List R) (end : InputEnd C) (text : List ℕ)
      → AreWritten made 0 rs ⊎ RefusedFrom 0 rs → outcome job rs end ≡ going text tt
      → IsWrittenWith rs end text
  written_by rs end text (inl written) e =
      written_at rs end text written (sym (written_outcome rs end written) ∙ e)
  written_by rs end text (inr at) e =
      absurd (going≢broke _ _ _ _ (sym e ∙ each_refused rs end at.refusal (record {
        before = at.before;
        first = at.first;
        after = at.after;
        parts = at.parts;
        written = at.written;
        refused = subst (λ m. RefusesWith (made m at.first) m at.refusal) (omega arith) at.refused;
      })))

  uncut : (count : ℕ) (end : InputEnd C) (text : List ℕ) → IsUncut end → adds text (each_end cut count end) ≡ going text tt
  uncut count ends.Closed text is = ap (λ l. going l tt) (append-nil text)
  uncut count (ends.Cut c) text is = absurd is
  uncut count ends.Past text is = ap (λ l. going l tt) (append-nil text)

  pub each_written : (rs : List R) (end : InputEnd C) (text : List ℕ)
      → (outcome job rs end ≡ going text tt) ↔ IsWrittenWith rs end text
  each_written rs end text = (
    written_by rs end text (written_or 0 rs),
    λ d. written_outcome rs end d.0 ∙ uncut (length rs) end (texts_from made 0 rs) d.1 ∙ ap (λ l. going l tt) (sym d.2),
  )
