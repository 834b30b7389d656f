-- The definitions, computed on small inputs and jobs.
use Rattle.std.proofs.Common.{◌≡◌, ℕ, List, [], ◌∷◌, true, false, None, Some, inl, inr, refl, arith}
use Rattle.job_loop.specs.declared.input_end.InputEnd.TheVariants.{Closed, Cut, Past}
use Rattle.job_loop.specs.Shown.{Shown}
use Rattle.job_loop.specs.Meaning.{going, broke, outcome}
use Rattle.job_loop.specs.FirstFault.{Before, faults_of}
use Rattle.job_loop.specs.Samples.{LengthSettles, LengthEnds}
use Rattle.job_loop.specs.SampleJobs.{payloads, counts}

-- two records, "a" and "bc"
abbrev two : List (Shown ℕ)
two = record { item = 2; bytes = 97 ∷ [] } ∷ record { item = 5; bytes = 98 ∷ 99 ∷ [] } ∷ []

two_are_written : outcome {C = ℕ} payloads two Closed ≡ going (35 ∷ 58 ∷ 97 ∷ 58 ∷ 98 ∷ 99 ∷ 46 ∷ []) tt
two_are_written = refl

a_cut_is_refused : outcome {C = ℕ} payloads two (Cut 1) ≡ broke (35 ∷ 58 ∷ 97 ∷ 58 ∷ 98 ∷ 99 ∷ []) true
a_cut_is_refused = refl

-- an empty record between them ends the run, and nothing behind it is written
an_empty_one_is_refused : outcome {C = ℕ} payloads
    (record { item = 2; bytes = 97 ∷ [] } ∷ record { item = 3; bytes = [] } ∷ two) Closed
    ≡ broke (35 ∷ 58 ∷ 97 ∷ []) false
an_empty_one_is_refused = refl

two_are_counted : outcome {C = ℕ} counts two Past ≡ going (2 ∷ []) tt
two_are_counted = refl

-- the bytes 1 97 2 98 settle the first record alone, and an input that ends there is cut
first_is_settled : LengthSettles (1 ∷ 97 ∷ 2 ∷ 98 ∷ []) (record { item = 2; bytes = 97 ∷ [] } ∷ [])
first_is_settled = (2 ∷ 98 ∷ [], record { whole = (97 ∷ []) ∷ []; parts = refl; part = omega arith; records_are = refl })

two_end : LengthEnds (1 ∷ 97 ∷ 2 ∷ 98 ∷ 99 ∷ []) two None
two_end = ([], record { whole = (97 ∷ []) ∷ (98 ∷ 99 ∷ []) ∷ []; parts = refl; part = tt; records_are = refl }, refl)

a_front_is_cut : LengthEnds (1 ∷ 97 ∷ 2 ∷ 98 ∷ []) (record { item = 2; bytes = 97 ∷ [] } ∷ []) (Some 1)
a_front_is_cut = (2 ∷ 98 ∷ [], record { whole = (97 ∷ []) ∷ []; parts = refl; part = omega arith; records_are = refl }, refl)

-- the order of faults: place, then record, then row
place_first : Before {F = ℕ} (record { place = 3; number = 9; fault = record { row = 9; refusal = 0 } })
    (record { place = 4; number = 0; fault = record { row = 0; refusal = 0 } })
place_first = inl (omega arith)

row_last : Before {F = ℕ} (record { place = 3; number = 1; fault = record { row = 2; refusal = 0 } })
    (record { place = 3; number = 1; fault = record { row = 4; refusal = 0 } })
row_last = inr (refl, inr (refl, omega arith))

faults_are_numbered : faults_of {R = ℕ} {F = ℕ} (λ r. r) (λ r. record { row = r; refusal = 7 } ∷ []) 0 (5 ∷ 6 ∷ [])
    ≡ record { place = 5; number = 0; fault = record { row = 5; refusal = 7 } }
    ∷ record { place = 6; number = 1; fault = record { row = 6; refusal = 7 } } ∷ []
faults_are_numbered = refl
