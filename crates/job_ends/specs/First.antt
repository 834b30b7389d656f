-- The end of a job that keeps the first refusal.
use Rattle.std.specs.Prelude.{ℕ, [], Option, Some, None, unwrap_or}
use Rattle.job_loop.specs.Meaning.{Step, goes, stops}
use Rattle.job_loop.specs.declared.input_end.InputEnd.{InputEnd}
use Rattle.job_loop.specs.declared.input_end.InputEnd.TheVariants as ends

-- a closed input is refused for the first refusal, if there is one
abbrev pub first_closed : {F : Type 0} → Option F → Step (Unit {0}) F
first_closed None = goes [] tt
first_closed (Some refusal) = stops [] refusal

-- a cut one is refused for it too, and else for the cut, where this number is told for the cut record; and past the limit
-- nothing is refused
abbrev pub first_end : {C F : Type 0} → (ℕ → C → F) → ℕ → Option F → InputEnd C → Step (Unit {0}) F
first_end cut number first ends.Closed = first_closed first
first_end cut number first (ends.Cut c) = stops [] (unwrap_or first (cut number c))
first_end cut number first ends.Past = goes [] tt
