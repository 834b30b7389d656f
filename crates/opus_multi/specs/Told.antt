-- What is known of durations that were told one after another.
use Rattle.std.specs.Prelude.{◌≡◌, ℕ, List, ◌∷◌, ◌++◌, length, replicate, Option, Some, None, ◌≤◌}
use Rattle.opus_multi.specs.declared.durations.Durations.{Durations}

-- all are the first, or this is the first that differs from it
abbrev pub Says : ℕ → Option ℕ → List ℕ → Type 0
Says first None durations = durations ≡ replicate (length durations) first
Says first (Some k) durations = (1 ≤ k)
    × ((other : ℕ) × (rest : List ℕ) × (other ≡ first → ⊥) × (durations ≡ replicate k first ++ other ∷ rest))

abbrev pub Told : Durations → List ℕ → Type 0
Told d durations = Says d.first d.other durations
