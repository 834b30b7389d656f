-- A number with its name, in a line of several.
use Rattle.std.specs.Prelude.{ℕ, List, ◌∷◌, ◌++◌, decimal}

-- ` NAME N`
abbrev pub named : List ℕ → ℕ → List ℕ
named name n = 32 ∷ (name ++ 32 ∷ decimal n)
