-- What the functions that print append, which no public clause cites.
use Rattle.std.specs.Prelude.{◌≡◌, ℕ, ◌-◌, ◌^◌, ◌<◌, ◌≤◌, List, [], ◌∷◌}
use Rattle.opus_sdp.specs.declared.param.Param.{Param}

-- what stands in front of the next parameter, where the first one stands behind this byte
abbrev pub separator_behind : ℕ → List Param → ℕ
separator_behind separator [] = separator
separator_behind separator (p ∷ params) = 59

-- the size is so many bytes, or the greatest number of 64 bits where they are more
pub record Counts (size bytes : ℕ) : Type 0 where
  pub most : size ≤ bytes
  pub exact : size < 2 ^ 64 - 1 → size ≡ bytes
