-- What norm keeps of records: the records in order, and of each its range and its kept form, or that it is lost.
use Rattle.std.specs.Prelude.{◌≡◌, ℕ, ◌^◌, ◌<◌, List, [], ◌∷◌}
use Rattle.std.specs.List.{AllByRecursion}
use Rattle.job_loop.specs.Shown.{Shown}
use Rattle.opus_feed.specs.declared.framing.Framing.{Framing}
use Rattle.opus_feed.specs.declared.framing.Framing.TheVariants.{Whole, SelfDelimited as Delimited}
use Rattle.opus_words.specs.declared.form.Form.{Form}
use Rattle.opus_words.specs.declared.form.Form.TheVariants.{Raw, Demo, SelfDelimited}
use Rattle.pack_records.specs.declared.item.Found.{Found}
use Rattle.pack_records.specs.declared.item.Found.TheVariants.{Packet, Lost, Bad}
use Rattle.pack_records.specs.declared.item.Item.{Item}
use Rattle.pack_records.specs.Fits.{IsForm}

-- a packet of this framing, of which the kept form is lent
abbrev pub IsPacketIn : Framing → Found → List ℕ → Type 0
IsPacketIn framing (Packet other shape size) bytes = IsForm framing bytes
IsPacketIn framing Lost bytes = ⊥
IsPacketIn framing (Bad fault) bytes = ⊥

-- the same, or a lost packet
abbrev pub IsStored : Found → List ℕ → Type 0
IsStored (Packet framing shape size) bytes = IsForm Whole bytes
IsStored Lost bytes = Unit {0}
IsStored (Bad fault) bytes = ⊥

pub record IsLoneRecord (framing : Framing) (r : Shown Item) : Type 0 where
  pub range : r.item.range ≡ 0
  pub packet : IsPacketIn framing r.item.found r.bytes

pub record IsStoreRecord (r : Shown Item) : Type 0 where
  pub range : r.item.range < 2 ^ 32
  pub stored : IsStored r.item.found r.bytes

-- one packet at most
abbrev pub IsAtMostOne : List (Shown Item) → Type 0
IsAtMostOne [] = Unit {0}
IsAtMostOne (r ∷ []) = IsLoneRecord Whole r
IsAtMostOne (r ∷ s ∷ rs) = ⊥

-- good records that an input of this form can have
abbrev pub AreRecordsOf : Form → List (Shown Item) → Type 0
AreRecordsOf Raw rs = IsAtMostOne rs
AreRecordsOf Demo rs = AllByRecursion IsStoreRecord rs
AreRecordsOf SelfDelimited rs = AllByRecursion (IsLoneRecord Delimited) rs

-- packets of one kept form, or two lost ones
abbrev pub IsSameFound : Found → List ℕ → Found → List ℕ → Type 0
IsSameFound (Packet f s n) bytes (Packet g t m) bytes' = bytes ≡ bytes'
IsSameFound (Packet f s n) bytes Lost bytes' = ⊥
IsSameFound (Packet f s n) bytes (Bad fault) bytes' = ⊥
IsSameFound Lost bytes (Packet g t m) bytes' = ⊥
IsSameFound Lost bytes Lost bytes' = Unit {0}
IsSameFound Lost bytes (Bad fault) bytes' = ⊥
IsSameFound (Bad fault) bytes found bytes' = ⊥

pub record IsSameRecord (r s : Shown Item) : Type 0 where
  pub range : r.item.range ≡ s.item.range
  pub found : IsSameFound r.item.found r.bytes s.item.found s.bytes

abbrev pub AgreeOneByOne : List (Shown Item) → List (Shown Item) → Type 0
AgreeOneByOne [] [] = Unit {0}
AgreeOneByOne [] (s ∷ ss) = ⊥
AgreeOneByOne (r ∷ rs) [] = ⊥
AgreeOneByOne (r ∷ rs) (s ∷ ss) = IsSameRecord r s × AgreeOneByOne rs ss
