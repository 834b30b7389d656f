-- What a feed of multistream packets stands for: the bytes that it took since the last reset.
use Rattle.std.specs.Prelude.{◌≡◌, ℕ, ◌<◌, List, ◌++◌, length, map}
use Rattle.opus_packet.specs.declared.fault.Fault.{Fault}
use Rattle.opus_packet.specs.PacketPrefix.{AreBytes}
use Rattle.opus_feed.specs.Packets.{Refuses}
use Rattle.opus_feed.specs.Feeds.{Stands}
use Rattle.opus_feed.specs.Steps.{IsReading}
use Rattle.opus_multi.specs.declared.fault.MultiFault.TheVariants.{Stream, Unequal, NoMemory}
use Rattle.opus_multi.specs.declared.multi_place.MultiPlace.{MultiPlace}
use Rattle.opus_multi.specs.declared.multi_place.MultiPlace.TheVariants.{Reading, Done, Failed}
use Rattle.opus_multi.specs.declared.multi_feed.MultiFeed.{MultiFeed}
use Rattle.opus_multi.specs.Streams.{SpelledStream, StandFirst}
use Rattle.opus_multi.specs.Told.{Told}
use Rattle.opus_multi.specs.Multistream.{durations_of}
use Rattle.opus_multi.specs.MultistreamFault.{framing_of, IsBroken, AreUnequal}
use Rattle.opus_multi.specs.StreamParts.{part_of, AreAllParts}

-- the first streams are whole, and the feed of the next one stands for the bytes behind them
pub record Reads (m : MultiFeed) (bytes : List ℕ) : Type 0 where
  pub first : List SpelledStream
  pub rest : List ℕ
  pub within : length first < m.streams
  pub stand : StandFirst first bytes rest
  pub parts_are : m.parts.items ≡ map (part_of m.feed.padding) first
  pub told : Told m.durations (durations_of first)
  pub framing : m.feed.framing ≡ framing_of m.streams (length first)
  pub stands : Stands m.feed rest
  pub reading : IsReading m.feed.place

-- the first k streams are whole, and no continuation makes the next one read
pub record HasRefused (m : MultiFeed) (k : ℕ) (f : Fault) (bytes : List ℕ) : Type 0 where
  pub first : List SpelledStream
  pub rest : List ℕ
  pub counted : length first ≡ k
  pub within : k < m.streams
  pub stand : StandFirst first bytes rest
  pub parts_are : m.parts.items ≡ map (part_of m.feed.padding) first
  pub refuses : (more : List ℕ) → AreBytes (rest ++ more) → Refuses (framing_of m.streams k) f (rest ++ more)

-- before `finish`: want of memory leaves it standing for no bytes
abbrev pub MultiStandsAt : MultiPlace → MultiFeed → List ℕ → Type 0
MultiStandsAt Reading m bytes = Reads m bytes
MultiStandsAt Done m bytes = ⊥
MultiStandsAt (Failed (Stream k f)) m bytes = HasRefused m k f bytes
MultiStandsAt (Failed (Unequal k)) m bytes = ⊥
MultiStandsAt (Failed NoMemory) m bytes = ⊥

-- these bytes came since the last reset, and `finish` wasn't called
pub record MultiStands (m : MultiFeed) (bytes : List ℕ) : Type 0 where
  pub are_bytes : AreBytes bytes
  pub at : MultiStandsAt m.place m bytes

-- the first k streams are whole, and the next one doesn't read
pub record HasBroken (m : MultiFeed) (k : ℕ) (f : Fault) (bytes : List ℕ) : Type 0 where
  pub broken : IsBroken m.streams bytes k f
  pub parts_are : m.parts.items ≡ map (part_of m.feed.padding) broken.first

-- all streams read, and stream k lasts other than stream 0; the last one isn't kept
pub record HasUnequal (m : MultiFeed) (k : ℕ) (bytes : List ℕ) : Type 0 where
  pub unequal : AreUnequal m.streams bytes k
  pub parts_are : m.parts.items ≡ map (part_of m.feed.padding) unequal.are.front

-- after `finish`
abbrev pub MultiEndedAt : MultiPlace → MultiFeed → List ℕ → Type 0
MultiEndedAt Reading m bytes = ⊥
MultiEndedAt Done m bytes = AreAllParts m.streams m.feed.padding bytes m.parts.items
MultiEndedAt (Failed (Stream k f)) m bytes = HasBroken m k f bytes
MultiEndedAt (Failed (Unequal k)) m bytes = HasUnequal m k bytes
MultiEndedAt (Failed NoMemory) m bytes = ⊥

-- these bytes came since the last reset and before the first `finish`
pub record MultiEnded (m : MultiFeed) (bytes : List ℕ) : Type 0 where
  pub are_bytes : AreBytes bytes
  pub at : MultiEndedAt m.place m bytes
