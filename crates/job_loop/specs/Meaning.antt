-- What a job over records means: a text and an answer for each list of records and each end of the input.
use Rattle.std.specs.Prelude.{ℕ, List, [], ◌∷◌, ◌++◌, Option, None, Some}
use Rattle.job_loop.specs.declared.input_end.InputEnd.{InputEnd}
use Rattle.job_loop.specs.declared.input_end.InputEnd.TheVariants.{Closed, Cut}

-- what a record or the end becomes: text, and what the job keeps then; or text, and the refusal that ends the run
pub data Step (K F : Type 0) : Type 0 where
  goes : List ℕ → K → Step K F
  stops : List ℕ → F → Step K F

-- A job over records R, which keeps a K between two of them. A cut of the input is told by a C, and a refusal by
-- an F. What stands before the first record; what the job keeps then; what it makes of a record; and what it
-- adds at the end: where the input is closed, where it is cut, and where it goes on past the limit.
pub record Meaning (R K C F : Type 0) : Type 0 where
  pub opening : List ℕ
  pub start : K
  pub step : K → R → Step K F
  pub finish : K → InputEnd C → Step (Unit {0}) F

-- a run so far, with all its text
pub data Run (K F : Type 0) : Type 0 where
  going : List ℕ → K → Run K F
  broke : List ℕ → F → Run K F

abbrev pub run_text : {K F : Type 0} → Run K F → List ℕ
run_text (going text kept) = text
run_text (broke text refusal) = text

-- the text of one step
abbrev pub step_text : {K F : Type 0} → Step K F → List ℕ
step_text (goes text kept) = text
step_text (stops text refusal) = text

abbrev pub adds : {K F : Type 0} → List ℕ → Step K F → Run K F
adds text (goes more kept) = going (text ++ more) kept
adds text (stops more refusal) = broke (text ++ more) refusal

-- one record more; a run that broke stays as it is
abbrev pub onward : {R K C F : Type 0} → Meaning R K C F → Run K F → R → Run K F
onward m (going text kept) r = adds text (m.step kept r)
onward m (broke text refusal) r = broke text refusal

abbrev pub runs : {R K C F : Type 0} → Meaning R K C F → Run K F → List R → Run K F
runs m run [] = run
runs m run (r ∷ rs) = runs m (onward m run r) rs

-- the run before the first record
abbrev pub opened : {R K C F : Type 0} → Meaning R K C F → Run K F
opened m = going m.opening m.start

-- the run at the end of the input
abbrev pub closes : {R K C F : Type 0} → Meaning R K C F → InputEnd C → Run K F → Run (Unit {0}) F
closes m end (going text kept) = adds text (m.finish kept end)
closes m end (broke text refusal) = broke text refusal

-- all that a job makes of records and of the end behind them
abbrev pub outcome : {R K C F : Type 0} → Meaning R K C F → List R → InputEnd C → Run (Unit {0}) F
outcome m rs end = closes m end (runs m (opened m) rs)

-- an end within the limit: closed, or cut
abbrev pub end_of : {C : Type 0} → Option C → InputEnd C
end_of None = Closed
end_of (Some c) = Cut c
