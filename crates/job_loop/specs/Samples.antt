-- Two small forms of records, on which the tests run. Bytes, places and sizes are all there is to them.
use Rattle.std.specs.Prelude.{◌≡◌, ℕ, suc, ◌+◌, ◌-◌, ◌<◌, List, [], ◌∷◌, ◌++◌, length, drop, nat_lt, if◌then◌else◌, Option, None, Some}
use Rattle.job_loop.specs.Shown.{Shown}

-- ---- a byte that gives a length, and so many bytes

abbrev pub spelled : List (List ℕ) → List ℕ
spelled [] = []
spelled (p ∷ ps) = length p ∷ (p ++ spelled ps)

-- a record is where it ends, and its bytes behind the length
abbrev pub record_at : ℕ → List ℕ → Shown ℕ
record_at at p = record { item = at + suc (length p); bytes = p }

abbrev pub records_at : ℕ → List (List ℕ) → List (Shown ℕ)
records_at at [] = []
records_at at (p ∷ ps) = record_at at p ∷ records_at (at + suc (length p)) ps

-- nothing, or a proper front of a record
abbrev pub IsPart : List ℕ → Type 0
IsPart [] = Unit {0}
IsPart (n ∷ xs) = length xs < n

-- how many bytes are missing of the record that was begun
abbrev pub missing : List ℕ → Option ℕ
missing [] = None
missing (n ∷ xs) = Some (n - length xs)

pub record LengthFront (h : List ℕ) (rs : List (Shown ℕ)) (rest : List ℕ) : Type 0 where
  pub whole : List (List ℕ)
  pub parts : h ≡ spelled whole ++ rest
  pub part : IsPart rest
  pub records_are : rs ≡ records_at 0 whole

abbrev pub LengthSettles : List ℕ → List (Shown ℕ) → Type 0
LengthSettles h rs = (rest : List ℕ) × LengthFront h rs rest

abbrev pub LengthEnds : List ℕ → List (Shown ℕ) → Option ℕ → Type 0
LengthEnds h rs cut = (rest : List ℕ) × LengthFront h rs rest × (cut ≡ missing rest)

-- how many bytes the record has that begins so
abbrev pub size_of : List ℕ → ℕ
size_of [] = 0
size_of (n ∷ xs) = suc n

-- The machine keeps the bytes `kept` of a record that has `need` of them. Where it has all, they are passed.
abbrev pub rest_kept : ℕ → List ℕ → List ℕ
rest_kept need kept = if nat_lt (length kept) need then kept else []

pub record LengthStands (kept : List ℕ) (need : ℕ) (h : List ℕ) (rs : List (Shown ℕ)) : Type 0 where
  pub front : LengthFront h rs (rest_kept need kept)
  pub size : length kept < need → need ≡ size_of kept

-- what is lent of a record: the bytes fed last, or those kept
abbrev pub lent_from : ℕ → List ℕ → List ℕ → List ℕ
lent_from need kept own = if nat_lt 0 need then kept else own

abbrev pub lent_record : ℕ → ℕ → List ℕ → List ℕ → Shown ℕ
lent_record end need kept own = record { item = end; bytes = drop 1 (lent_from need kept own) }

-- ---- the whole input as one record: how many bytes it has

abbrev pub size_record : ℕ → Shown ℕ
size_record n = record { item = n; bytes = [] }

abbrev pub SizeSettles : List ℕ → List (Shown ℕ) → Type 0
SizeSettles h rs = rs ≡ []

abbrev pub SizeEnds : List ℕ → List (Shown ℕ) → Option ℕ → Type 0
SizeEnds h rs cut = (rs ≡ size_record (length h) ∷ []) × (cut ≡ None)
