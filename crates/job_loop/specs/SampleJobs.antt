-- Three small jobs, on which the tests run.
use Rattle.std.specs.Prelude.{ℕ, ◌+◌, List, [], ◌∷◌, Bool, true, false, min}
use Rattle.job_loop.specs.Shown.{Shown}
use Rattle.job_loop.specs.declared.input_end.InputEnd.{InputEnd}
use Rattle.job_loop.specs.declared.input_end.InputEnd.TheVariants.{Closed, Cut, Past}
use Rattle.job_loop.specs.Meaning.{Meaning, Step, goes, stops}

-- writes each record's bytes behind a mark; an empty record is refused (false), and a cut too (true)
abbrev pub payload_step : List ℕ → Step (Unit {0}) Bool
payload_step [] = stops [] false
payload_step (x ∷ xs) = goes (58 ∷ x ∷ xs) tt

abbrev pub payload_end : {C : Type 0} → InputEnd C → Step (Unit {0}) Bool
payload_end Closed = goes (46 ∷ []) tt
payload_end (Cut c) = stops [] true
payload_end Past = goes (46 ∷ []) tt

abbrev pub payloads : {N C : Type 0} → Meaning (Shown N) (Unit {0}) C Bool
payloads = record {
  opening = 35 ∷ [];
  start = tt;
  step = λ k r. payload_step r.bytes;
  finish = λ k end. payload_end end;
}

-- counts records, up to 255 of them, and writes the count at the end
abbrev pub counts : {N C : Type 0} → Meaning (Shown N) ℕ C Bool
counts = record {
  opening = [];
  start = 0;
  step = λ k r. goes [] (min (k + 1) 255);
  finish = λ k end. goes (k ∷ []) tt;
}

-- writes the same text for each record and at the end
abbrev pub repeats : {N C : Type 0} → List ℕ → Meaning (Shown N) (Unit {0}) C Bool
repeats text = record {
  opening = [];
  start = tt;
  step = λ k r. goes text tt;
  finish = λ k end. goes text tt;
}
