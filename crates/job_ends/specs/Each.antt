-- A job that makes something of each record by itself, and keeps the number of records alone.
use Rattle.std.specs.Prelude.{◌≡◌, ℕ, ◌+◌, List, [], ◌∷◌, ◌++◌, length}
use Rattle.job_loop.specs.Meaning.{Meaning, Step, goes, stops}
use Rattle.job_loop.specs.declared.input_end.InputEnd.{InputEnd}
use Rattle.job_loop.specs.declared.input_end.InputEnd.TheVariants as ends
use Rattle.job_ends.specs.declared.refusal.Refusal.{Refusal}
use Rattle.job_ends.specs.Refusal.{told, refusal_of}

-- what becomes of a record: a text is written; or the input is refused at a place, for a reason
pub data Made (W : Type 0) : Type 0 where
  writes : List ℕ → Made W
  refuses : ℕ → W → Made W

-- the record for which this number is told; `count` records came before
abbrev pub made_step : {W : Type 0} → ℕ → ℕ → Made W → Step ℕ (Refusal W)
made_step number count (writes text) = goes text (count + 1)
made_step number count (refuses place why) = stops [] (refusal_of number place why)

-- the end of the input adds nothing; a cut is refused as `cut` has it, behind so many records
abbrev pub each_end : {C F : Type 0} → (ℕ → C → F) → ℕ → InputEnd C → Step (Unit {0}) F
each_end cut count ends.Closed = goes [] tt
each_end cut count (ends.Cut c) = stops [] (cut (told count) c)
each_end cut count ends.Past = goes [] tt

-- the job that makes this of each record, which has this number
abbrev pub each : {R C W : Type 0} → (ℕ → C → Refusal W) → (ℕ → R → Made W) → Meaning R ℕ C (Refusal W)
each cut made = record {
  opening = [];
  start = 0;
  step = λ count r. made_step (told count) count (made count r);
  finish = each_end cut;
}

-- ---- what is written for records, of which the first has this number

abbrev pub text_of : {W : Type 0} → Made W → List ℕ
text_of (writes text) = text
text_of (refuses place why) = []

abbrev pub texts_from : {R W : Type 0} → (ℕ → R → Made W) → ℕ → List R → List ℕ
texts_from made number [] = []
texts_from made number (r ∷ rs) = text_of (made number r) ++ texts_from made (number + 1) rs

-- a text is written
abbrev pub IsWritten : {W : Type 0} → Made W → Type 0
IsWritten (writes text) = Unit {0}
IsWritten (refuses place why) = ⊥

abbrev pub AreWritten : {R W : Type 0} → (ℕ → R → Made W) → ℕ → List R → Type 0
AreWritten made number [] = Unit {0}
AreWritten made number (r ∷ rs) = IsWritten (made number r) × AreWritten made (number + 1) rs

-- the record of this number is refused so
abbrev pub RefusesWith : {W : Type 0} → Made W → ℕ → Refusal W → Type 0
RefusesWith (writes text) number refusal = ⊥
RefusesWith (refuses place why) number refusal = refusal ≡ refusal_of (told number) place why

-- the first record that is refused, and how
pub record FirstRefusedBy {R W : Type 0} (made : ℕ → R → Made W) (rs : List R) (refusal : Refusal W) : Type 0 where
  pub before : List R
  pub first : R
  pub after : List R
  pub parts : rs ≡ before ++ first ∷ after
  pub written : AreWritten made 0 before
  pub refused : RefusesWith (made (length before) first) (length before) refusal

-- ---- ends

-- the end isn't within a record
abbrev pub IsUncut : {C : Type 0} → InputEnd C → Type 0
IsUncut ends.Closed = Unit {0}
IsUncut (ends.Cut cut) = ⊥
IsUncut ends.Past = Unit {0}
