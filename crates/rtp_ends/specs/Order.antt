-- Arrivals in the order of their places.
use Rattle.std.specs.Prelude.{◌<◌, nat_lt, nat_eq, if◌then◌else◌, List, [], ◌∷◌}
use Rattle.std.specs.List.{AllByRecursion}
use Rattle.rtp_ends.specs.Numbers.{Placed}

-- into an ascending list: where the place has an arrival, the first one stays
abbrev pub put : Placed → List Placed → List Placed
put a [] = a ∷ []
put a (b ∷ bs) =
    if nat_lt a.place b.place then a ∷ b ∷ bs
    else if nat_eq a.place b.place then b ∷ bs
    else b ∷ put a bs

abbrev pub put_all : List Placed → List Placed → List Placed
put_all kept [] = kept
put_all kept (a ∷ rest) = put_all (put a kept) rest

-- the first arrival of each place, in ascending order
abbrev pub ordered : List Placed → List Placed
ordered arrivals = put_all [] arrivals

-- each place is above those before it
abbrev pub Ascend : List Placed → Type 0
Ascend [] = Unit {0}
Ascend (a ∷ rest) = AllByRecursion (λ b. a.place < b.place) rest × Ascend rest
