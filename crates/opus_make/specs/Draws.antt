-- The numbers that are drawn: a linear congruential generator modulo 2^32, of which the high half is drawn. The rule is
-- this project's, and the factors are widely used ones.
use Rattle.std.specs.Prelude.{ℕ, zero, suc, ◌+◌, ◌*◌, ◌/◌, ◌%◌, ◌^◌, List, map}
use Rattle.std.specs.List.{range_with_len}

abbrev pub next_state : ℕ → ℕ
next_state state = (1664525 * state + 1013904223) % 2 ^ 32

-- the state after so many draws
abbrev pub state_after : ℕ → ℕ → ℕ
state_after state zero = state
state_after state (suc count) = next_state (state_after state count)

-- the number drawn from a state on
abbrev pub drawn : ℕ → ℕ
drawn state = next_state state / 65536

-- so many numbers, drawn one after another
abbrev pub draws : ℕ → ℕ → List ℕ
draws count state = map (λ i. drawn (state_after state i)) (range_with_len 0 count)
