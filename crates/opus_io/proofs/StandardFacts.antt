-- The definitions, computed on small counts and lists.
use Rattle.std.proofs.Common.{◌≡◌, ◌-◌, ◌^◌, true, false, [], ◌∷◌, Some, refl, arith}
use Rattle.opus_io.specs.Cause.{Rose, RoseWhere}
use Rattle.opus_io.specs.Sink.{Grew}
use Rattle.opus_io.specs.Reader.{coming}

-- a count rises by one, and one at its last value counts as risen
one_more : Rose 3 4
one_more = omega arith

last_value : Rose (2 ^ 64 - 1) (2 ^ 64 - 1)
last_value = omega arith

unchanged : Rose 3 3 → ⊥
unchanged rose = omega (arith, rose)

answered : RoseWhere true 3 5
answered = (omega arith, omega arith)

not_answered : RoseWhere false 3 3
not_answered = refl

-- what comes next is what the reader keeps, and then what the source has left
next_comes : coming (record { bytes = 1 ∷ 2 ∷ []; passed = 7; limit = 9; last = [] }) (Some (3 ∷ [])) ≡ Some (1 ∷ 2 ∷ 3 ∷ [])
next_comes = refl

-- a sink that handed two bytes more on grew
two_more : Grew (Some (1 ∷ [])) (Some (1 ∷ 2 ∷ 3 ∷ []))
two_more = (2 ∷ 3 ∷ [], refl)
