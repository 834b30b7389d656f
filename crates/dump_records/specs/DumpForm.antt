-- What the machine of the form of captures stands for.
use Rattle.std.specs.Prelude.{◌≡◌, ◌⊎◌, ℕ, ◌+◌, ◌≤◌, List, [], ◌∷◌, ◌++◌, length, take, drop, true}
use Rattle.std.specs.List.{flat_map}
use Rattle.job_loop.specs.Shown.{Shown}
use Rattle.job_loop.specs.Forms.{HasFed}
use Rattle.job_loop.specs.declared.form.Fed.{Fed}
use Rattle.rec_store.specs.Dump.{DumpRecord, dump_record_bytes}
use Rattle.rec_store.specs.DumpLine.{IsDumpLine, IsLinePart}
use Rattle.rec_store.specs.DumpStore.{AreBytes, IsDumpFront, HasShortLength}
use Rattle.rec_store.specs.declared.dump_opening.DumpHead.{DumpHead}
use Rattle.rec_store.specs.declared.stop.StoreFault.TheVariants.{DumpLength}
use Rattle.dump_records.specs.declared.item.Item.{Item}
use Rattle.dump_records.specs.declared.form.DumpForm.{DumpForm}
use Rattle.dump_records.specs.declared.mode.Mode.{Mode}
use Rattle.dump_records.specs.declared.mode.Mode.TheVariants.{Line, Head, Fresh, Kept, First, Part, Bad}
use Rattle.dump_records.specs.Capture.{shown_records, bad_record, ShowsBadLine}
use Rattle.dump_records.specs.Fits.{ItemFits}

-- ---- what is lent

-- the packet's bytes of the record that stands: they lie in the bytes taken last, or among those that are kept
abbrev pub lent_in : Mode → List ℕ → ℕ → List ℕ → List ℕ
lent_in Line kept size own = []
lent_in Head kept size own = []
lent_in Fresh kept size own = take size (drop 8 own)
lent_in Kept kept size own = take size (drop 8 kept)
lent_in First kept size own = []
lent_in Part kept size own = []
lent_in Bad kept size own = []

abbrev pub shown_by : DumpForm → List ℕ → Shown Item
shown_by s own = record { item = s.item; bytes = lent_in s.mode s.kept.items s.size own }

-- they are all there
abbrev pub LiesIn : Mode → List ℕ → ℕ → List ℕ → Type 0
LiesIn Line kept size own = Unit {0}
LiesIn Head kept size own = Unit {0}
LiesIn Fresh kept size own = 8 + size ≤ length own
LiesIn Kept kept size own = 8 + size ≤ length kept
LiesIn First kept size own = Unit {0}
LiesIn Part kept size own = Unit {0}
LiesIn Bad kept size own = Unit {0}

pub record IsReady (s : DumpForm) (own : List ℕ) : Type 0 where
  pub lies : LiesIn s.mode s.kept.items s.size own
  pub fits : ItemFits s.item (lent_in s.mode s.kept.items s.size own)

-- ---- what the machine was fed

-- the first line, and so many bytes of the head
pub record InHead (seen : ℕ) (h : List ℕ) : Type 0 where
  pub line : List ℕ
  pub part : List ℕ
  pub is_line : IsDumpLine line
  pub are : AreBytes part
  pub parts : h ≡ line ++ part
  pub count : length part ≡ seen

-- an opening and records, which are shown, and a rest
pub record InRecords (h : List ℕ) (rs : List (Shown Item)) (rest : List ℕ) : Type 0 where
  pub head : DumpHead
  pub records : List DumpRecord
  pub front : IsDumpFront h head records rest
  pub first : ℕ
  pub first_is : first + length (flat_map dump_record_bytes records) + length rest ≡ length h
  pub shows : rs ≡ shown_records first records

-- a record of which these bytes came
pub record InRecord (came : List ℕ) (h : List ℕ) (rs : List (Shown Item)) : Type 0 where
  pub before : InRecords h rs came
  pub are : AreBytes came

-- a record whose length is below 8, and bytes behind that
pub record InShort (h : List ℕ) (rs : List (Shown Item)) : Type 0 where
  pub told : List (Shown Item)
  pub rest : List ℕ
  pub before : InRecords h told rest
  pub at : ℕ
  pub begins : at + length rest ≡ length h
  pub short : HasShortLength rest
  pub shows : rs ≡ told ++ bad_record (at + 2) (DumpLength at) ∷ []

-- in each mode: within the line, within the head, between two records, behind the first byte of one, within one, and
-- where the capture goes wrong
abbrev pub StandsIn : Mode → DumpForm → List ℕ → List (Shown Item) → Type 0
StandsIn Line s h rs = IsLinePart h × (length h ≡ s.seen) × (rs ≡ [])
StandsIn Head s h rs = InHead s.seen h × (rs ≡ [])
StandsIn Fresh s h rs = InRecords h rs []
StandsIn Kept s h rs = InRecords h rs []
StandsIn First s h rs = InRecord s.kept.items h rs × (s.start + 1 ≡ length h)
StandsIn Part s h rs = InRecord s.kept.items h rs
StandsIn Bad s h rs = ShowsBadLine h rs ⊎ InShort h rs

-- the machine was fed these bytes, and these records stood
abbrev pub DumpStands : DumpForm → List ℕ → List (Shown Item) → Type 0
DumpStands s h rs = StandsIn s.mode s h rs

-- what a call says of bytes `own` that it took behind `at` others
abbrev pub Feeds : DumpForm → DumpForm → ℕ → Fed → List ℕ → Type 0
Feeds old new at fed own =
    (h : List ℕ) (rs : List (Shown Item)) → DumpStands old h rs → length h ≡ at
    → HasFed (DumpStands new) (λ r. r.item.place) (shown_by new own) fed.whole h rs own (at + fed.count)

-- What a call took of a piece behind `at` bytes: one byte at least, and where it says so a record stands that can be lent.
pub record Took (old new : DumpForm) (at : ℕ) (piece : List ℕ) (f : Fed) : Type 0 where
  pub some : 1 ≤ f.count
  pub most : f.count ≤ length piece
  pub fed : Feeds old new at f (take f.count piece)
  pub ready : f.whole ≡ true → IsReady new (take f.count piece)
