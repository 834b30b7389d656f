-- Which fault of an input is its first: the least by its place, its record's number and its row.
use Rattle.std.specs.Prelude.{◌≡◌, ◌⊎◌, ℕ, ◌+◌, ◌<◌, ◌≤◌, List, [], ◌∷◌, ◌++◌, map, length}
use Rattle.std.specs.List.{AllByRecursion}

-- a fault of a record: its row in the table of faults, and how it is told
pub record Fault (F : Type 0) : Type 0 where
  pub row : ℕ
  pub refusal : F

-- where it stands: the place at which it was decided, and the number of its record, counted from 0
pub record FaultAt (F : Type 0) : Type 0 where
  pub place : ℕ
  pub number : ℕ
  pub fault : Fault F

-- the order of faults
abbrev pub Before : {F : Type 0} → FaultAt F → FaultAt F → Type 0
Before a b = (a.place < b.place)
    ⊎ ((a.place ≡ b.place) × ((a.number < b.number) ⊎ ((a.number ≡ b.number) × (a.fault.row < b.fault.row))))

abbrev pub IsAmong : {F : Type 0} → List (FaultAt F) → FaultAt F → Type 0
IsAmong [] f = ⊥
IsAmong (g ∷ fs) f = (g ≡ f) ⊎ IsAmong fs f

-- f is one of these faults, and comes before each other one
pub record IsFirst {F : Type 0} (fs : List (FaultAt F)) (f : FaultAt F) : Type 0 where
  pub among : IsAmong fs f
  pub least : AllByRecursion (λ g. (g ≡ f) ⊎ Before f g) fs

-- the faults of records of which the first has this number
abbrev pub faults_of : {R F : Type 0} → (R → ℕ) → (R → List (Fault F)) → ℕ → List R → List (FaultAt F)
faults_of place faults number [] = []
faults_of place faults number (r ∷ rs) =
    map (λ f. record { place = place r; number = number; fault = f }) (faults r)
    ++ faults_of place faults (number + 1) rs

-- records that come in the order in which they are decided, from a place on
abbrev pub InOrder : {R : Type 0} → (R → ℕ) → ℕ → List R → Type 0
InOrder place at [] = Unit {0}
InOrder place at (r ∷ rs) = (at ≤ place r) × InOrder place (place r) rs

-- the faults of a record, by their rows
abbrev pub RowsRise : {F : Type 0} → ℕ → List (Fault F) → Type 0
RowsRise n [] = Unit {0}
RowsRise n (f ∷ fs) = (n ≤ f.row) × RowsRise (f.row + 1) fs

-- the first fault of the first record that has one
pub record FirstBad {R F : Type 0} (place : R → ℕ) (faults : R → List (Fault F)) (rs : List R) (f : FaultAt F)
    : Type 0 where
  pub before : List R
  pub bad : R
  pub after : List R
  pub others : List (Fault F)
  pub parts : rs ≡ before ++ bad ∷ after
  pub good : AllByRecursion (λ r. faults r ≡ []) before
  pub first : faults bad ≡ f.fault ∷ others
  pub place_is : f.place ≡ place bad
  pub number_is : f.number ≡ length before
