-- Why a job refuses an input: the record's number, the place in the input, and a reason; and how it is told.
use Rattle.std.specs.Prelude.{◌≡◌, ℕ, ◌-◌, ◌^◌, List, min}
use Rattle.opus_words.specs.declared.ending.JobFault.{JobFault}
use Rattle.job_ends.specs.declared.refusal.Refusal.{Refusal}

-- a number or place as it is told, in 64 bits: itself, up to the greatest of them
abbrev pub told : ℕ → ℕ
told n = min n (2 ^ 64 - 1)

abbrev pub refusal_of : {W : Type 0} → ℕ → ℕ → W → Refusal W
refusal_of index place why = record { index = index; place = place; why = why }

-- the refusal that a program's fault tells, where these words name a reason
abbrev pub Tells : {W : Type 0} → (W → List ℕ) → JobFault → Refusal W → Type 0
Tells words f r = (f.index ≡ r.index) × (f.place ≡ r.place) × (f.text.bytes ≡ words r.why)
