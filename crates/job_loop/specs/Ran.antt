-- What the answer of a run says of the bytes taken and of what was written.
use Rattle.std.specs.Prelude.{◌≡◌, ◌⊎◌, ℕ, ◌+◌, ◌≤◌, List, [], ◌∷◌, ◌++◌, length, Option}
use Rattle.std.specs.Io.KnownBytes.{Appends, Consumes, IsAtEnd}
use Rattle.job_loop.specs.declared.input_end.InputEnd.TheVariants.{Past}
use Rattle.job_loop.specs.declared.ending.Ending.{Ending}
use Rattle.job_loop.specs.declared.ending.Ending.TheVariants as endings
use Rattle.job_loop.specs.Meaning.{Meaning, going, broke, runs, opened, outcome, run_text, end_of}
use Rattle.job_loop.specs.Telling.{Front}

-- The bytes taken are a front, whose records were handed to the job, and at most 4,096 bytes behind it; of all these
-- at most one lies past the limit.
pub record Taken (limit : ℕ) (left left' : Option (List ℕ)) (front behind : List ℕ) : Type 0 where
  pub consumed : Consumes left left' (front ++ behind)
  pub near : length behind ≤ 4096
  pub in_limit : length front ≤ limit
  pub one_past : length front + length behind ≤ limit + 1

-- the bytes taken are all of the input
pub record TakenAll (limit : ℕ) (left left' : Option (List ℕ)) (input : List ℕ) : Type 0 where
  pub consumed : Consumes left left' input
  pub in_limit : length input ≤ limit
  pub at_end : IsAtEnd left'

-- the bytes taken are those up to the limit, and one past it
pub record TakenPast (limit : ℕ) (left left' : Option (List ℕ)) (front behind : List ℕ) : Type 0 where
  pub consumed : Consumes left left' (front ++ behind)
  pub full : length front ≡ limit
  pub past : length behind ≡ 1

-- A run of the job m under a limit. Settles and Ends are what the form says of bytes, `left` is what the source has
-- left before and afterwards, `old` and `new` are what the sink holds, and `held` is what it keeps back at the end.
module _ {R K C F : Type 0} (m : Meaning R K C F) (Settles : List ℕ → List R → Type 0)
    (Ends : List ℕ → List R → Option C → Type 0) (place : R → ℕ) (limit : ℕ)
    (left left' old new : Option (List ℕ)) (held : List ℕ) where
  -- all of the input was taken, and all of the meaning is written
  pub record RanOk : Type 0 where
    pub input : List ℕ
    pub records : List R
    pub cut : Option C
    pub text : List ℕ
    pub taken : TakenAll limit left left' input
    pub ends : Ends input records cut
    pub closed : outcome m records (end_of cut) ≡ going text tt
    pub written : Appends old new text
    pub handed_on : held ≡ []

  -- a read failed: what is written is exactly what the bytes taken settle, and these refuse nothing
  pub record RanUnread : Type 0 where
    pub front : List ℕ
    pub records : List R
    pub text : List ℕ
    pub kept : K
    pub consumed : Consumes left left' front
    pub in_limit : length front ≤ limit
    pub settled : Settles front records
    pub run : runs m (opened m) records ≡ going text kept
    pub written : Appends old new text
    pub handed_on : held ≡ []

  -- the input is longer than the limit: what is written is exactly what the bytes up to it settle
  pub record RanPast : Type 0 where
    pub front : List ℕ
    pub behind : List ℕ
    pub records : List R
    pub text : List ℕ
    pub taken : TakenPast limit left left' front behind
    pub settled : Settles front records
    pub closed : outcome m records Past ≡ going text tt
    pub written : Appends old new text
    pub handed_on : held ≡ []

  -- a record is refused: what stands before it is written, and at most 4,096 bytes behind its place were taken
  pub record RefusedAt (refusal : F) : Type 0 where
    pub front : List ℕ
    pub behind : List ℕ
    pub records : List R
    pub last : R
    pub before : List ℕ
    pub kept : K
    pub text : List ℕ
    pub taken : Taken limit left left' front behind
    pub placed : place last ≡ length front
    pub settled : Settles front (records ++ last ∷ [])
    pub went : runs m (opened m) records ≡ going before kept
    pub run : runs m (opened m) (records ++ last ∷ []) ≡ broke text refusal
    pub written : Appends old new text
    pub handed_on : held ≡ []

  -- the end of the input is refused, or a record that it decides; what the bytes themselves decide refuses nothing
  pub record RefusedAtEnd (refusal : F) : Type 0 where
    pub input : List ℕ
    pub decided : List R
    pub before : List ℕ
    pub kept : K
    pub records : List R
    pub cut : Option C
    pub text : List ℕ
    pub taken : TakenAll limit left left' input
    pub settled : Settles input decided
    pub went : runs m (opened m) decided ≡ going before kept
    pub ends : Ends input records cut
    pub closed : outcome m records (end_of cut) ≡ broke text refusal
    pub written : Appends old new text
    pub handed_on : held ≡ []

  -- an input is refused for going on past the limit; what its bytes up to the limit settle refuses nothing
  pub record RefusedPast (refusal : F) : Type 0 where
    pub front : List ℕ
    pub behind : List ℕ
    pub records : List R
    pub before : List ℕ
    pub kept : K
    pub text : List ℕ
    pub taken : TakenPast limit left left' front behind
    pub settled : Settles front records
    pub went : runs m (opened m) records ≡ going before kept
    pub closed : outcome m records Past ≡ broke text refusal
    pub written : Appends old new text
    pub handed_on : held ≡ []

  -- a run that stopped before the end of the input: a front of what the bytes taken settle is written
  pub record StoppedAt : Type 0 where
    pub front : List ℕ
    pub behind : List ℕ
    pub records : List R
    pub taken : Taken limit left left' front behind
    pub settled : Settles front records
    pub written : Front (run_text (runs m (opened m) records)) old new

  -- a run that stopped at the end of the input: a front of its whole meaning is written
  pub record StoppedAtEnd : Type 0 where
    pub input : List ℕ
    pub records : List R
    pub cut : Option C
    pub taken : TakenAll limit left left' input
    pub ends : Ends input records cut
    pub written : Front (run_text (outcome m records (end_of cut))) old new

  -- a run that stopped past the limit
  pub record StoppedPast : Type 0 where
    pub front : List ℕ
    pub behind : List ℕ
    pub records : List R
    pub taken : TakenPast limit left left' front behind
    pub settled : Settles front records
    pub written : Front (run_text (outcome m records Past)) old new

  abbrev pub RanRefused : F → Type 0
  RanRefused refusal = RefusedAt refusal ⊎ RefusedAtEnd refusal ⊎ RefusedPast refusal

  abbrev pub RanStopped : Type 0
  RanStopped = StoppedAt ⊎ StoppedAtEnd ⊎ StoppedPast

  -- all of it, by the answer
  abbrev pub Ran : Ending F → Type 0
  Ran endings.Ok = RanOk
  Ran (endings.Refused refusal) = RanRefused refusal
  Ran endings.ReadFault = RanUnread
  Ran endings.WriteFault = RanStopped
  Ran endings.InputLimit = RanPast
  Ran endings.NoMemory = RanStopped
