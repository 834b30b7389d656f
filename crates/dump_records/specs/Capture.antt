-- A capture as an input of records: which of them its bytes decide. What a capture is, where it is cut and where it goes
-- wrong is told by rec_store; what is shown of it is this project's.
use Rattle.std.specs.Prelude.{◌≡◌, ◌⊎◌, ℕ, ◌+◌, List, [], ◌∷◌, ◌++◌, length, Option, None, Some}
use Rattle.std.specs.List.{flat_map}
use Rattle.job_loop.specs.Shown.{Shown}
use Rattle.rec_store.specs.Dump.{DumpRecord, dump_record_bytes, packet_of_record}
use Rattle.rec_store.specs.DumpItem.{item_of}
use Rattle.rec_store.specs.DumpLine.{IsBadLine}
use Rattle.rec_store.specs.DumpStore.{IsDumpFront, IsStoreCut, IsOpeningPart, IsRecordPart, HasShortLength}
use Rattle.rec_store.specs.declared.dump_opening.DumpHead.{DumpHead}
use Rattle.rec_store.specs.declared.stop.StoreFault.{StoreFault}
use Rattle.rec_store.specs.declared.stop.StoreFault.TheVariants.{StoreCut, DumpLine, DumpLength}
use Rattle.dump_records.specs.declared.item.Item.{Item}
use Rattle.dump_records.specs.declared.item.Found.{Found}
use Rattle.dump_records.specs.declared.item.Found.TheVariants.{Record, Bad}

-- ---- what is shown

abbrev pub shown_item : ℕ → Found → List ℕ → Shown Item
shown_item place found bytes = record { item = record { place = place; found = found }; bytes = bytes }

-- a record, decided at its end: its packet's bytes
abbrev pub shown_record : ℕ → DumpRecord → Shown Item
shown_record place r = shown_item place (Record (item_of r)) (packet_of_record r)

-- where the capture goes wrong, decided behind so many bytes
abbrev pub bad_record : ℕ → StoreFault → Shown Item
bad_record place fault = shown_item place (Bad fault) []

-- records one after another, of which the first begins at `at`
abbrev pub shown_records : ℕ → List DumpRecord → List (Shown Item)
shown_records at [] = []
shown_records at (r ∷ rs) =
    shown_record (at + (8 + length r.kept)) r ∷ shown_records (at + (8 + length r.kept)) rs

-- Of a rest that begins at `at`: nothing where it is a part of a record, and a length below 8 as soon as it stands
-- there.
abbrev pub ShowsRest : ℕ → List ℕ → List (Shown Item) → Type 0
ShowsRest at rest rs =
    (IsRecordPart rest × (rs ≡ [])) ⊎ (HasShortLength rest × (rs ≡ bad_record (at + 2) (DumpLength at) ∷ []))

-- ---- what bytes decide

-- the bytes end within the opening
pub record ShowsOpening (bytes : List ℕ) (rs : List (Shown Item)) : Type 0 where
  pub part : IsOpeningPart bytes
  pub shows : rs ≡ []

-- the first line goes wrong, which is decided by the byte at that place
pub record ShowsBadLine (bytes : List ℕ) (rs : List (Shown Item)) : Type 0 where
  pub place : ℕ
  pub bad : IsBadLine bytes place
  pub shows : rs ≡ bad_record (place + 1) (DumpLine place) ∷ []

-- the bytes are an opening, records, of which the first begins at `first`, and a rest, which begins at `at`
pub record ShowsRecords (bytes : List ℕ) (rs : List (Shown Item)) : Type 0 where
  pub head : DumpHead
  pub records : List DumpRecord
  pub rest : List ℕ
  pub front : IsDumpFront bytes head records rest
  pub first : ℕ
  pub at : ℕ
  pub first_is : first + length (flat_map dump_record_bytes records) ≡ at
  pub at_is : at + length rest ≡ length bytes
  pub last : List (Shown Item)
  pub shows_rest : ShowsRest at rest last
  pub shows : rs ≡ shown_records first records ++ last

-- these records are decided, however the input goes on
abbrev pub DumpSettles : List ℕ → List (Shown Item) → Type 0
DumpSettles bytes rs = ShowsOpening bytes rs ⊎ (ShowsBadLine bytes rs ⊎ ShowsRecords bytes rs)

-- how a whole input is cut, if it is
abbrev pub CutOf : List ℕ → Option StoreFault → Type 0
CutOf bytes None = IsStoreCut bytes → ⊥
CutOf bytes (Some fault) = IsStoreCut bytes × (fault ≡ StoreCut (length bytes))

-- the records and the cut of a whole input
abbrev pub DumpEnds : List ℕ → List (Shown Item) → Option StoreFault → Type 0
DumpEnds bytes rs cut = DumpSettles bytes rs × CutOf bytes cut
