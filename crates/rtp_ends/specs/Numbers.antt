-- Extended sequence numbers (RFC 3550, A.1, with a window of this project's own). A number can be negative, so it is kept as
-- its place, which is the number plus 65,536.
use Rattle.std.specs.Prelude.{◌≡◌, ℕ, ◌+◌, ◌-◌, ◌%◌, ◌<◌, ◌≤◌, max, nat_le, if◌then◌else◌, ℤ, pos, ◌-ℤ◌, List, [], ◌∷◌, map}

-- one packet, as it arrived
pub record Heard : Type 0 where
  pub seq : ℕ
  pub stamp : ℕ
  pub payload : List ℕ

-- the same at its place
pub record Placed : Type 0 where
  pub place : ℕ
  pub stamp : ℕ
  pub payload : List ℕ

abbrev pub number_at : ℕ → ℤ
number_at place = pos place -ℤ pos 65536

-- how far a sequence number is ahead of a place, modulo 2^16
abbrev pub ahead_of : ℕ → ℕ → ℕ
ahead_of greatest seq = (seq + 65536 - greatest % 65536) % 65536

-- the place of a sequence number behind arrivals with this greatest place
unfoldable pub place_after : ℕ → ℕ → ℕ
place_after greatest seq =
    if nat_le (ahead_of greatest seq) 32768
    then greatest + ahead_of greatest seq
    else greatest + ahead_of greatest seq - 65536

-- the rule: it has the sequence number, and is above the greatest one less 32,768 and at most 32,768 above it
pub record IsPlaceAfter (greatest seq place : ℕ) : Type 0 where
  pub same : place % 65536 ≡ seq
  pub above : greatest < place + 32768
  pub within : place ≤ greatest + 32768

abbrev pub placed_at : ℕ → Heard → Placed
placed_at place h = record { place = place; stamp = h.stamp; payload = h.payload }

-- arrivals at their places, behind others with this greatest place
abbrev pub placed_after : ℕ → List Heard → List Placed
placed_after greatest [] = []
placed_after greatest (h ∷ hs) =
    placed_at (place_after greatest h.seq) h ∷ placed_after (max greatest (place_after greatest h.seq)) hs

-- all arrivals at their places: the first number is its sequence number
abbrev pub placed : List Heard → List Placed
placed [] = []
placed (h ∷ hs) = placed_at (65536 + h.seq) h ∷ placed_after (65536 + h.seq) hs

-- the numbers of all arrivals
abbrev pub extended_numbers : List Heard → List ℤ
extended_numbers heard = map (λ a. number_at a.place) (placed heard)

abbrev pub greatest_of : List Placed → ℕ
greatest_of [] = 0
greatest_of (a ∷ rest) = max a.place (greatest_of rest)

-- the place that an arrival with this sequence number gets behind these ones
abbrev pub next_place : List Heard → ℕ → ℕ
next_place [] seq = 65536 + seq
next_place (h ∷ hs) seq = place_after (greatest_of (placed (h ∷ hs))) seq
