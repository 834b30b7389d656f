-- Bytes that fall into pieces.
use Rattle.std.specs.Prelude.{ℕ, List, [], ◌∷◌, take, drop}

-- the bytes fall into pieces of these lengths
abbrev pub cut : List ℕ → List ℕ → List (List ℕ)
cut bytes [] = []
cut bytes (n ∷ ns) = take n bytes ∷ cut (drop n bytes) ns
