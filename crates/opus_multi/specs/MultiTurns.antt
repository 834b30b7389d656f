-- What the parts of `MultiFeed::feed` do.
use Rattle.std.specs.Prelude.{◌≡◌, ℕ, ◌+◌, ◌<◌, ◌≤◌, List, [], ◌∷◌, ◌++◌, length, take, Option, Some, None, Result, Ok, Err, ⊤}
use Rattle.opus_packet.specs.Value.{duration_of}
use Rattle.opus_packet.specs.Read.{PacketRead}
use Rattle.opus_feed.specs.Feeds.{room_in, Stands, Ended}
use Rattle.opus_feed.specs.Answers.{IsRead}
use Rattle.opus_feed.specs.Steps.{IsReading}
use Rattle.opus_multi.specs.declared.fault.MultiFault.{MultiFault}
use Rattle.opus_multi.specs.declared.fault.MultiFault.TheVariants.{Stream, Unequal, NoMemory}
use Rattle.opus_multi.specs.declared.multi_place.MultiPlace.TheVariants.{Reading, Failed}
use Rattle.opus_multi.specs.declared.multi_feed.MultiFeed.{MultiFeed}
use Rattle.opus_multi.specs.Told.{Told}
use Rattle.opus_multi.specs.MultistreamFault.{framing_of}
use Rattle.opus_multi.specs.StreamParts.{part_as, AreAllParts}
use Rattle.opus_multi.specs.MultiStands.{Reads, HasRefused, HasBroken, HasUnequal}
use Rattle.opus_multi.specs.MultiAnswers.{HasMoreStreams, IsSomeMultistream}

-- what doesn't change
pub record SameChoices (old new : MultiFeed) : Type 0 where
  pub streams : new.streams ≡ old.streams
  pub padding : new.feed.padding ≡ old.feed.padding
  pub room : room_in new.feed ≡ room_in old.feed

-- all of a piece came, behind which these are all bytes; or a stream was refused, or became whole
abbrev pub TakeReads : MultiFeed → List ℕ → Result ⊤ MultiFault → MultiFeed → Type 0
TakeReads old bytes (Ok done) new = Reads new bytes
TakeReads old bytes (Err (Stream k f)) new = HasRefused new k f bytes
TakeReads old bytes (Err (Unequal k)) new = ⊥
TakeReads old bytes (Err NoMemory) new = HasMoreStreams old.streams (length old.parts.items) bytes

-- the same of a piece behind some bytes; or a stream ends behind so many bytes of it, and the next one begins
abbrev pub TurnReads : MultiFeed → List ℕ → List ℕ → Result (Option ℕ) MultiFault → MultiFeed → Type 0
TurnReads old bytes piece (Ok None) new = Reads new (bytes ++ piece)
TurnReads old bytes piece (Ok (Some used)) new = Reads new (bytes ++ take used piece)
TurnReads old bytes piece (Err (Stream k f)) new = HasRefused new k f (bytes ++ piece)
TurnReads old bytes piece (Err (Unequal k)) new = ⊥
TurnReads old bytes piece (Err NoMemory) new = HasMoreStreams old.streams (length old.parts.items) (bytes ++ piece)

-- where it stands, and how many parts there are
abbrev pub Turned : MultiFeed → ℕ → Result (Option ℕ) MultiFault → MultiFeed → Type 0
Turned old size (Ok None) new = (new.place ≡ Reading) × (length new.parts.items ≡ length old.parts.items)
Turned old size (Ok (Some used)) new =
    (new.place ≡ Reading) × (used ≤ size) × (length old.parts.items < length new.parts.items)
Turned old size (Err f) new = new.place ≡ Failed f

-- the feed went on by the front of a piece, and the rest is left
pub record SoFar (old now : MultiFeed) (piece rest : List ℕ) : Type 0 where
  pub front : List ℕ
  pub piece_is : piece ≡ front ++ rest
  pub reading : now.place ≡ Reading
  pub more : length old.parts.items ≤ length now.parts.items
  pub same : SameChoices old now
  pub reads : (bytes : List ℕ) → Reads old bytes → Reads now (bytes ++ front)

-- the packet that was whole became a part, and the next stream begins
pub record HasKept (old new : MultiFeed) : Type 0 where
  pub packet : PacketRead
  pub read : (bytes : List ℕ) → Stands old.feed bytes → IsRead old.feed.framing old.feed.padding bytes packet
  pub parts_are : new.parts.items ≡ old.parts.items ++ part_as packet ∷ []
  pub told : (ds : List ℕ) → length ds ≡ length old.parts.items → Told old.durations ds
      → Told new.durations (ds ++ duration_of packet.value ∷ [])
  pub framing : new.feed.framing ≡ framing_of old.streams (length old.parts.items + 1)
  pub begins : Stands new.feed []
  pub reading : IsReading new.feed.place

-- where the input ends
abbrev pub EndReads : List ℕ → Result ⊤ MultiFault → MultiFeed → Type 0
EndReads bytes (Ok done) new = AreAllParts new.streams new.feed.padding bytes new.parts.items
EndReads bytes (Err (Stream k f)) new = HasBroken new k f bytes
EndReads bytes (Err (Unequal k)) new = HasUnequal new k bytes
EndReads bytes (Err NoMemory) new = IsSomeMultistream new.streams bytes

-- the last packet is whole, and its duration was told
pub record HasLast (old new : MultiFeed) : Type 0 where
  pub packet : PacketRead
  pub read : (bytes : List ℕ) → Ended old.feed bytes → IsRead old.feed.framing old.feed.padding bytes packet
  pub told : (ds : List ℕ) → length ds ≡ length old.parts.items → Told old.durations ds
      → Told new.durations (ds ++ duration_of packet.value ∷ [])

-- it became a part where all last as long and memory was found
abbrev pub LastReads : MultiFeed → Result ⊤ MultiFault → MultiFeed → Type 0
LastReads old (Ok done) new = (last : HasLast old new) × (new.durations.other ≡ None)
    × (new.parts.items ≡ old.parts.items ++ part_as last.packet ∷ [])
LastReads old (Err (Stream k f)) new = ⊥
LastReads old (Err (Unequal k)) new = HasLast old new × ((other : ℕ) × (new.durations.other ≡ Some other)
    × (other < 255 → k ≡ other)) × (new.parts.items ≡ old.parts.items)
LastReads old (Err NoMemory) new = HasLast old new × (new.durations.other ≡ None)
