-- What the records of an input hold, wherever they stand and however they were spelled.
use Rattle.std.specs.Prelude.{◌≡◌, ℕ, ◌^◌, ◌<◌, List, [], ◌∷◌, map, Option, Some, None}
use Rattle.job_loop.specs.Shown.{Shown}
use Rattle.opus_packet.specs.Held.{HeldRead}
use Rattle.opus_words.specs.declared.form.Form.{Form}
use Rattle.opus_words.specs.declared.form.Form.TheVariants.{Raw, Demo, SelfDelimited}
use Rattle.stream_records.specs.declared.item.StreamsItem.{StreamsItem}
use Rattle.stream_records.specs.Holds.{Choices, HoldsStreams, held_as, lost_record}

-- what a record holds: of each stream its value with the padding bytes that are kept, or no streams where it is lost; and
-- its range
pub record Content : Type 0 where
  pub range : ℕ
  pub streams : Option (List HeldRead)

abbrev pub content_of : ℕ → Option (List HeldRead) → Content
content_of range streams = record { range = range; streams = streams }

-- the record shows a multistream packet of these
pub record HoldsHeld (c : Choices) (range : ℕ) (hs : List HeldRead) (r : Shown StreamsItem) : Type 0 where
  pub start : ℕ
  pub bytes : List ℕ
  pub holds : HoldsStreams c start range bytes r
  pub held : hs ≡ map (held_as c.padding) holds.streams

-- or a lost one
abbrev pub HasStreams : Choices → ℕ → Option (List HeldRead) → Shown StreamsItem → Type 0
HasStreams c range None r = (start : ℕ) × (r ≡ lost_record start range)
HasStreams c range (Some hs) r = HoldsHeld c range hs r

-- a record of a store
pub record IsStored (c : Choices) (r : Shown StreamsItem) (x : Content) : Type 0 where
  pub fits : x.range < 2 ^ 32
  pub has : HasStreams c x.range x.streams r

-- those of a store, one by one
abbrev pub AreStored : Choices → List (Shown StreamsItem) → List Content → Type 0
AreStored c [] [] = Unit {0}
AreStored c [] (x ∷ xs) = ⊥
AreStored c (r ∷ rs) [] = ⊥
AreStored c (r ∷ rs) (x ∷ xs) = IsStored c r x × AreStored c rs xs

-- an input that is one packet has one record, with range 0
pub record IsOnePacket (c : Choices) (rs : List (Shown StreamsItem)) (xs : List Content) : Type 0 where
  pub shown : Shown StreamsItem
  pub held : List HeldRead
  pub holds : HoldsHeld c 0 held shown
  pub records_are : rs ≡ shown ∷ []
  pub contents_are : xs ≡ content_of 0 (Some held) ∷ []

-- what the good records of an input of this form hold
abbrev pub AreContents : Form → Choices → List (Shown StreamsItem) → List Content → Type 0
AreContents Raw c rs xs = IsOnePacket c rs xs
AreContents Demo c rs xs = AreStored c rs xs
AreContents SelfDelimited c rs xs = ⊥
