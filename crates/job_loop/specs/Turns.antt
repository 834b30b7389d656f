-- What a turn of a reader of records gives.
use Rattle.std.specs.Prelude.{◌≡◌, ℕ, ◌+◌, ◌-◌, ◌<◌, ◌≤◌, List, [], ◌∷◌, ◌++◌, Bool, true, false, length, Option, if◌then◌else◌}
use Rattle.opus_io.specs.Reader.{ReaderState}
use Rattle.job_loop.specs.declared.records.Records.{Records}
use Rattle.job_loop.specs.declared.records.Turn.{Turn}
use Rattle.job_loop.specs.declared.records.Turn.TheVariants.{Part, Record, Needs, Past, End, Last, NoMemory}

-- bytes that the reader kept were passed, one at least, and these are the ones passed last
pub record Moved (old new : ReaderState) : Type 0 where
  pub bytes : old.bytes ≡ new.last ++ new.bytes
  pub passed : new.passed ≡ old.passed + length new.last
  pub some : 0 < length new.last
  pub limit : new.limit ≡ old.limit
  pub in_limit : new.passed ≤ new.limit

-- nothing was passed, and nothing is kept
pub record Empty (old new : ReaderState) : Type 0 where
  pub same : new ≡ old
  pub none : new.bytes ≡ []

-- nothing was passed; the limit is reached, and a byte past it is kept
pub record Full (old new : ReaderState) : Type 0 where
  pub same : new ≡ old
  pub full : new.passed ≡ new.limit
  pub more : 0 < length new.bytes

-- what the turn did with the bytes kept; `over` says that the source was found at its end
abbrev pub Moves : {C : Type 0} → Turn C → ReaderState → ReaderState → Bool → Type 0
Moves Part old new over = Moved old new
Moves Record old new over = Moved old new
Moves Needs old new over = Empty old new × (over ≡ false)
Moves Past old new over = Full old new
Moves (End cut) old new over = Empty old new × (over ≡ true)
Moves (Last cut) old new over = Empty old new × (over ≡ true)
Moves NoMemory old new over = new ≡ old

-- what the turn says of the records, where h was passed before and the records rs stood
abbrev pub Turns : {R C : Type 0} → (List ℕ → List R → Type 0) → (List ℕ → List R → Option C → Type 0) → (R → ℕ)
    → R → Turn C → ReaderState → List ℕ → List R → Type 0
Turns Stands Ends place current Part new h rs = Stands (h ++ new.last) rs
Turns Stands Ends place current Record new h rs =
    Stands (h ++ new.last) (rs ++ current ∷ []) × (place current ≡ new.passed)
Turns Stands Ends place current Needs new h rs = Stands h rs
Turns Stands Ends place current Past new h rs = Stands h rs
Turns Stands Ends place current (End cut) new h rs = Ends h rs cut
Turns Stands Ends place current (Last cut) new h rs = Ends h (rs ++ current ∷ []) cut
Turns Stands Ends place current NoMemory new h rs = Unit {0}

-- the turn has a record to lend
abbrev pub IsReady : {C : Type 0} → Turn C → Type 0 → Type 0
IsReady Part Ready = Unit {0}
IsReady Record Ready = Ready
IsReady Needs Ready = Unit {0}
IsReady Past Ready = Unit {0}
IsReady (End cut) Ready = Unit {0}
IsReady (Last cut) Ready = Ready
IsReady NoMemory Ready = Unit {0}

-- the turn gives up only where it may run out of memory
abbrev pub IsWanting : {C : Type 0} → Turn C → Type 0 → Type 0
IsWanting Part Lacks = Unit {0}
IsWanting Record Lacks = Unit {0}
IsWanting Needs Lacks = Unit {0}
IsWanting Past Lacks = Unit {0}
IsWanting (End cut) Lacks = Unit {0}
IsWanting (Last cut) Lacks = Unit {0}
IsWanting NoMemory Lacks = Lacks

-- A turn of a form over a reader: what it did with the bytes kept, what it says of the records, which may be lent, and
-- when it gives up. Of the form it is told what it depends on, what it stands for, what the end of the input makes of
-- that, where a record is decided, which record stands, whether it can be lent, and where the form may lack memory.
pub record Turned {F L R C : Type 0} (layout : F → L) (Stands : F → List ℕ → List R → Type 0)
    (Ends : L → List ℕ → List R → Option C → Type 0) (place : R → ℕ) (current : F → List ℕ → R)
    (Ready : F → List ℕ → Type 0) (Lacks : L → Type 0) (came : Turn C) (old new : Records F) : Type 0 where
  pub moves : Moves came old.reader new.reader old.over
  pub turn : (h : List ℕ) (rs : List R) → Stands old.form h rs → length h ≡ old.reader.passed
      → Turns (Stands new.form) (Ends (layout old.form)) place (current new.form new.reader.last) came new.reader h rs
  pub same : layout new.form ≡ layout old.form
  pub over : new.over ≡ old.over
  pub ready : IsReady came (Ready new.form new.reader.last)
  pub wanting : IsWanting came (Lacks (layout old.form))

-- what is kept lies within the reader's buffer, and at most one byte past the limit
pub record Within (k : ReaderState) : Type 0 where
  pub near : length k.bytes ≤ 4096
  pub in_limit : k.passed ≤ k.limit
  pub one_past : k.passed + length k.bytes ≤ k.limit + 1

-- how much of a run is left: bytes to pass, bytes to take, and the end to find
abbrev pub still : ReaderState → Bool → ℕ
still k over = (k.limit - k.passed) + (k.limit + 1 - (k.passed + length k.bytes)) + (if over then 0 else 1)
