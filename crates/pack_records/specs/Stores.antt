-- An `opus_demo` store of heads and payloads, whatever reads a payload: the records that its bytes decide. A store's own
-- record is `demo_record`; what is shown of it is this project's.
use Rattle.std.specs.Prelude.{◌≡◌, ℕ, ◌+◌, ◌^◌, ◌<◌, List, [], ◌∷◌, ◌++◌, length, Option, None, Some, ◌⊎◌}
use Rattle.std.specs.List.{AllByRecursion}
use Rattle.opus_packet.specs.PacketPrefix.{AreBytes}
use Rattle.rec_store.specs.DemoStore.{demo_head, demo_record, IsDemoRecord, NoWholeRecord}
use Rattle.pack_records.specs.declared.cut.Cut.{Cut}
use Rattle.pack_records.specs.Payloads.{Deciding, Showing}

-- ---- a store

-- one record of a store
pub record StoreRecord : Type 0 where
  pub range : ℕ
  pub payload : List ℕ

-- the bytes of records one after another
abbrev pub store_of : List StoreRecord → List ℕ
store_of [] = []
store_of (r ∷ rs) = demo_record r.range r.payload ++ store_of rs

abbrev pub IsStoreRecord : StoreRecord → Type 0
IsStoreRecord r = IsDemoRecord r.range r.payload

-- the head of a record and a part of its payload, not all of it
pub record CutPayload (rest : List ℕ) (range : ℕ) (part : List ℕ) : Type 0 where
  pub len : ℕ
  pub len_fits : len < 2 ^ 32
  pub range_fits : range < 2 ^ 32
  pub short : length part < len
  pub rest_is : rest ≡ demo_head len range ++ part

-- ---- what is shown of it

-- A record without a payload is a lost packet. Any other shows what its payload holds, whose first byte stands at
-- `start`.
abbrev pub ShowsPayload : {R : Type 0} → Showing R → ℕ → ℕ → List ℕ → R → Type 0
ShowsPayload w start range [] r = r ≡ w.lost start range
ShowsPayload w start range (b ∷ bs) r = w.holds start range (b ∷ bs) r

-- The rest of a store begins at `at`. Its payload begins so that its record is decided, however it goes on, and one
-- record shows that.
pub record EarlyRest {R : Type 0} (d : Deciding R) (at : ℕ) (rest : List ℕ) (rs : List R) : Type 0 where
  pub range : ℕ
  pub part : List ℕ
  pub payload : CutPayload rest range part
  pub early : d.early (at + 8) range part
  pub shows : rs ≡ d.told (at + 8) range part early ∷ []

-- nothing of the rest is decided
abbrev pub IsUndecided : {R : Type 0} → Deciding R → List ℕ → Type 0
IsUndecided d rest =
    (start range : ℕ) (part : List ℕ) → CutPayload rest range part → d.early start range part → ⊥

-- and nothing is shown of it
pub record OpenRest {R : Type 0} (d : Deciding R) (rest : List ℕ) (rs : List R) : Type 0 where
  pub undecided : IsUndecided d rest
  pub shows : rs ≡ []

abbrev pub ShowsRest : {R : Type 0} → Deciding R → ℕ → List ℕ → List R → Type 0
ShowsRest d at rest rs = EarlyRest d at rest rs ⊎ OpenRest d rest rs

-- what is shown of whole records, of which the first begins at `at`, and of the rest behind them
abbrev pub ShowsStore : {R : Type 0} → Showing R → ℕ → List StoreRecord → List ℕ → List R → Type 0
ShowsStore w at [] rest rs = ShowsRest w.decides at rest rs
ShowsStore w at (s ∷ ss) rest [] = ⊥
ShowsStore w at (s ∷ ss) rest (r ∷ rs) =
    ShowsPayload w (at + 8) s.range s.payload r
    × ShowsStore w (at + (8 + length s.payload)) ss rest rs

-- the bytes are whole records and a rest that begins with none, and these records show them
pub record IsStoreFront {R : Type 0} (w : Showing R) (h : List ℕ) (rs : List R) (rest : List ℕ) : Type 0 where
  pub are_bytes : AreBytes h
  pub whole : List StoreRecord
  pub are : AllByRecursion IsStoreRecord whole
  pub parts : h ≡ store_of whole ++ rest
  pub none : NoWholeRecord rest
  pub shows : ShowsStore w 0 whole rest rs

-- these records are decided, however the input goes on
abbrev pub Settles : {R : Type 0} → Showing R → List ℕ → List R → Type 0
Settles w h rs = (rest : List ℕ) × IsStoreFront w h rs rest

-- an input of so many bytes is cut where a rest is there
abbrev pub cut_at : ℕ → List ℕ → Option Cut
cut_at place [] = None
cut_at place (b ∷ bs) = Some (record { place = place })

-- the records and the cut of a whole input
abbrev pub Ends : {R : Type 0} → Showing R → List ℕ → List R → Option Cut → Type 0
Ends w h rs cut = (rest : List ℕ) × IsStoreFront w h rs rest × (cut ≡ cut_at (length h) rest)
