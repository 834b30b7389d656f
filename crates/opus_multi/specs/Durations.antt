-- Equal durations, and the first one that differs.
use Rattle.std.specs.Prelude.{◌≡◌, ℕ, ◌≤◌, List, ◌∷◌, ◌++◌, length, replicate}

-- all are one
abbrev pub HaveOneDuration : List ℕ → Type 0
HaveOneDuration durations = (first : ℕ) × (durations ≡ replicate (length durations) first)

-- the first k are one, at least the very first, and then comes another
pub record IsUnequalAt (durations : List ℕ) (k : ℕ) : Type 0 where
  pub first : ℕ
  pub other : ℕ
  pub rest : List ℕ
  pub some : 1 ≤ k
  pub differs : other ≡ first → ⊥
  pub are : durations ≡ replicate k first ++ other ∷ rest
