-- What a packet that is read in pieces stands for, and what is shown of it.
use Rattle.std.specs.Prelude.{◌≡◌, ℕ, ◌≤◌, List, ◌++◌, true, if◌then◌else◌, length, take, drop}
use Rattle.job_loop.specs.Shown.{Shown}
use Rattle.opus_feed.specs.declared.framing.Framing.{Framing}
use Rattle.opus_feed.specs.declared.framing.Framing.TheVariants.{SelfDelimited}
use Rattle.opus_feed.specs.declared.padding.Padding.{Padding}
use Rattle.opus_feed.specs.declared.step.Step.TheVariants.{More as MoreStep}
use Rattle.opus_feed.specs.Steps.{IsReading}
use Rattle.opus_packet.specs.Read.{PacketRead}
use Rattle.opus_packet.specs.Tail.{kept_bytes}
use Rattle.opus_feed.specs.declared.feed.Feed.{Feed}
use Rattle.opus_feed.specs.Feeds.{Stands, Ended}
use Rattle.opus_feed.specs.Answers.{Answers, IsRead}
use Rattle.pack_records.specs.declared.item.Item.{Item}
use Rattle.pack_records.specs.declared.pieces.Pieces.{Pieces}
use Rattle.pack_records.specs.declared.piece_taken.PieceTaken.{PieceTaken}
use Rattle.pack_records.specs.declared.piece_taken.PieceTaken.TheVariants.{More, Packet, Bad}
use Rattle.pack_records.specs.Early.{IsDecided}
use Rattle.pack_records.specs.declared.item.Found.TheVariants.{Packet as FoundPacket}
use Rattle.pack_records.specs.declared.item.Found.{Found}
use Rattle.pack_records.specs.Fits.{form_of, ItemFits}
use Rattle.pack_records.specs.Holds.{HoldsPacket, HoldsBad, record_of}

-- the bytes lent with the record: those behind the first few of the bytes taken last, or those that are kept
abbrev pub lent_bytes : Pieces → List ℕ → List ℕ
lent_bytes p own = if p.lies then drop p.before own else p.kept.items

-- the record that stands, where the bytes taken last are these
abbrev pub shown_by : Pieces → List ℕ → Shown Item
shown_by p own = record { item = p.item; bytes = lent_bytes p own }

abbrev pub item_of : ℕ → ℕ → ℕ → Found → Item
item_of start place range found = record { start = start; place = place; range = range; found = found }

-- the record can be lent with these bytes
pub record IsReady (p : Pieces) (own : List ℕ) : Type 0 where
  pub within : p.lies ≡ true → p.before ≤ length own
  pub fits : ItemFits p.item (lent_bytes p own)

-- what doesn't change
pub record Same (old new : Pieces) : Type 0 where
  pub padding : new.padding ≡ old.padding
  pub framing : new.framing ≡ old.framing

-- these bytes came of a packet, and they decide nothing yet
pub record PieceStands (p : Pieces) (h : List ℕ) : Type 0 where
  pub stands : Stands p.feed h
  pub reading : IsReading p.feed.place
  pub open_is : Answers p.framing h MoreStep

-- a piece came behind h, whose first byte stands at `start`
abbrev pub HasTaken : Pieces → ℕ → ℕ → List ℕ → List ℕ → PieceTaken → Type 0
HasTaken p start range h piece More = PieceStands p (h ++ piece)
HasTaken p start range h piece (Packet count) =
    (p.framing ≡ SelfDelimited)
    × ((own : List ℕ) → HoldsPacket p.padding p.framing start range (h ++ take count piece) (shown_by p own))
HasTaken p start range h piece (Bad count) =
    IsDecided p.framing (h ++ take count piece)
    × ((own : List ℕ) → HoldsBad p.framing start range (h ++ take count piece) (shown_by p own))

-- some bytes of a piece, one at least
abbrev pub IsCount : PieceTaken → ℕ → Type 0
IsCount More size = Unit {0}
IsCount (Packet count) size = (1 ≤ count) × (count ≤ size)
IsCount (Bad count) size = (1 ≤ count) × (count ≤ size)

-- the record shows the packet that a feed holds
pub record IsKeptOf (r : Shown Item) (padding : Padding) (framing : Framing) (start place range : ℕ)
    (feed : Feed) : Type 0 where
  pub packet : PacketRead
  pub stands : (bytes : List ℕ) → Stands feed bytes → IsRead framing padding bytes packet
  pub ended : (bytes : List ℕ) → Ended feed bytes → IsRead framing padding bytes packet
  pub shows : r ≡ record_of start place range (FoundPacket framing packet.shape packet.size)
      (form_of framing packet.value (kept_bytes packet.tail))

-- a record stands
abbrev pub IsStanding : PieceTaken → Type 0 → Type 0
IsStanding More Ready = Unit {0}
IsStanding (Packet count) Ready = Ready
IsStanding (Bad count) Ready = Ready
