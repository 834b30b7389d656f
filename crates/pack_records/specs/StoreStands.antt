-- What the machine of a store stands for.
use Rattle.std.specs.Prelude.{◌≡◌, ◌⊎◌, ℕ, ◌+◌, ◌^◌, ◌<◌, ◌≤◌, List, [], ◌++◌, length, take, true}
use Rattle.job_loop.specs.Forms.{HasFed}
use Rattle.job_loop.specs.declared.form.Fed.{Fed}
use Rattle.rec_store.specs.DemoStore.{demo_head}
use Rattle.pack_records.specs.declared.store.Store.{Store}
use Rattle.pack_records.specs.declared.store.Mode.{Mode}
use Rattle.pack_records.specs.declared.store.Mode.TheVariants.{Head, Payload, Skip}
use Rattle.pack_records.specs.Payloads.{Reading}
use Rattle.pack_records.specs.Stores.{IsStoreFront}

-- The rest is a head and this part of a payload, of which `left` bytes are missing.
pub record IsOpened (left range : ℕ) (rest part : List ℕ) : Type 0 where
  pub some : 1 ≤ left
  pub len_fits : length part + left < 2 ^ 32
  pub range_fits : range < 2 ^ 32
  pub rest_is : rest ≡ demo_head (length part + left) range ++ part

-- between two records, or within a head; within a payload that is read; within one that is decided
abbrev pub StandsIn : {P L R : Type 0} → Reading P L R → Mode → Store P → List ℕ → List ℕ → Type 0
StandsIn m Head s h rest = rest ≡ s.head.items
StandsIn m Payload s h rest =
    (part : List ℕ) × IsOpened s.left s.range rest part × m.stands s.payload s.start part
    × (s.start + length part ≡ length h) × (s.head.items ≡ [])
StandsIn m Skip s h rest =
    (part : List ℕ) × IsOpened s.left s.range rest part
    × (m.shows (m.layout s.payload)).decides.early s.start s.range part × (s.head.items ≡ [])

-- the machine was fed these bytes, and these records stood
pub record StoreStands {P L R : Type 0} (m : Reading P L R) (s : Store P) (h : List ℕ) (rs : List R) : Type 0 where
  pub rest : List ℕ
  pub front : IsStoreFront (m.shows (m.layout s.payload)) h rs rest
  pub stands : StandsIn m s.mode s h rest

-- a head was read whose payload is lost
pub record IsLost {P L R : Type 0} (m : Reading P L R) (s : Store P) (start range : ℕ) : Type 0 where
  pub mode : s.mode ≡ Head
  pub shown : (own : List ℕ) → m.current s.payload own ≡ (m.shows (m.layout s.payload)).lost start range
  pub ready : (own : List ℕ) → m.ready s.payload own

-- a head was read whose payload is to come
pub record IsOpen {P L R : Type 0} (m : Reading P L R) (s : Store P) (start len range : ℕ) : Type 0 where
  pub some : 1 ≤ len
  pub mode : s.mode ≡ Payload
  pub stands : m.stands s.payload start []
  pub start_is : s.start ≡ start
  pub range_is : s.range ≡ range
  pub left_is : s.left ≡ len

-- so many bytes were all of a payload
pub record IsOver {P : Type 0} (old new : Store P) (count : ℕ) : Type 0 where
  pub all : count ≡ old.left
  pub mode : new.mode ≡ Head
  pub head : new.head ≡ old.head
  pub start : new.start ≡ old.start
  pub range : new.range ≡ old.range

-- others follow
pub record IsLeft {P : Type 0} (old new : Store P) (count : ℕ) (mode : Mode) : Type 0 where
  pub left : old.left ≡ count + new.left
  pub mode_is : new.mode ≡ mode
  pub head : new.head ≡ old.head
  pub start : new.start ≡ old.start
  pub range : new.range ≡ old.range

abbrev pub IsPassed : {P : Type 0} → Store P → Store P → ℕ → Mode → Type 0
IsPassed old new count mode = IsOver old new count ⊎ IsLeft old new count mode

-- what a call says of bytes `own` that it took behind `at` others
abbrev pub Feeds : {P L R : Type 0} → Reading P L R → Store P → Store P → ℕ → Fed → List ℕ → Type 0
Feeds {P} {L} {R} m old new at fed own =
    (h : List ℕ) (rs : List R) → StoreStands m old h rs → length h ≡ at
    → HasFed (StoreStands m new) m.place (m.current new.payload own) fed.whole h rs own (at + fed.count)

-- What a call took of a piece behind `at` bytes: one byte at least, and where it says so a record stands that can be lent.
-- What the reader of payloads never changes stays.
pub record Took {P L R : Type 0} (m : Reading P L R) (old new : Store P) (at : ℕ) (piece : List ℕ) (f : Fed) : Type 0 where
  pub some : 1 ≤ f.count
  pub most : f.count ≤ length piece
  pub same : m.layout new.payload ≡ m.layout old.payload
  pub fed : Feeds m old new at f (take f.count piece)
  pub ready : f.whole ≡ true → m.ready new.payload (take f.count piece)
