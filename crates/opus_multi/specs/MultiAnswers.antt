-- What a feed of multistream packets answers of all bytes since the last reset, in the definitions' words.
use Rattle.std.specs.Prelude.{◌≡◌, ℕ, ◌<◌, List, length, Result, Ok, Err, ⊤}
use Rattle.opus_packet.specs.declared.fault.Fault.{Fault}
use Rattle.opus_packet.specs.Value.{PacketValue}
use Rattle.opus_feed.specs.declared.padding.Padding.{Padding}
use Rattle.opus_multi.specs.declared.fault.MultiFault.{MultiFault}
use Rattle.opus_multi.specs.declared.fault.MultiFault.TheVariants.{Stream, Unequal, NoMemory}
use Rattle.opus_multi.specs.declared.multi_place.MultiPlace.{MultiPlace}
use Rattle.opus_multi.specs.declared.multi_place.MultiPlace.TheVariants.{Reading, Done, Failed}
use Rattle.opus_multi.specs.declared.multi_feed.MultiFeed.{MultiFeed}
use Rattle.opus_multi.specs.declared.part.Part.{Part}
use Rattle.opus_multi.specs.Streams.{SpelledStream, StandFirst}
use Rattle.opus_multi.specs.Multistream.{IsMultistream}
use Rattle.opus_multi.specs.MultistreamFault.{IsBroken, IsMultistreamFault}
use Rattle.opus_multi.specs.MultistreamPrefix.{IsMultistreamPrefix}
use Rattle.opus_multi.specs.StreamParts.{AreFirstParts, AreAllParts}

-- no continuation makes stream k read, and the fault is that of the bytes
pub record RefusesStream (count k : ℕ) (f : Fault) (bytes : List ℕ) : Type 0 where
  pub prefix : IsMultistreamPrefix count bytes → ⊥
  pub broken : IsBroken count bytes k f

-- more than so many streams are whole among all but the last
pub record HasMoreStreams (count before : ℕ) (bytes : List ℕ) : Type 0 where
  pub first : List SpelledStream
  pub rest : List ℕ
  pub more : before < length first
  pub within : length first < count
  pub stand : StandFirst first bytes rest

-- the bytes are a multistream packet of so many streams
pub record IsSomeMultistream (count : ℕ) (bytes : List ℕ) : Type 0 where
  pub values : List PacketValue
  pub tails : List (List ℕ)
  pub counted : length values ≡ count
  pub is : IsMultistream values tails bytes

-- Ok: they can become one; a stream's fault: no continuation makes it read; want of memory comes only where a stream
-- became whole, of which so many were before
abbrev pub MultiAnswers : ℕ → ℕ → List ℕ → Result ⊤ MultiFault → Type 0
MultiAnswers count before bytes (Ok done) = IsMultistreamPrefix count bytes
MultiAnswers count before bytes (Err (Stream k f)) = RefusesStream count k f bytes
MultiAnswers count before bytes (Err (Unequal k)) = ⊥
MultiAnswers count before bytes (Err NoMemory) = HasMoreStreams count before bytes

-- Ok: they are one; a fault: they aren't, and it is theirs; want of memory comes only where they are one
abbrev pub MultiFinishes : ℕ → List ℕ → Result ⊤ MultiFault → Type 0
MultiFinishes count bytes (Ok done) = IsSomeMultistream count bytes
MultiFinishes count bytes (Err (Stream k f)) = IsMultistreamFault count bytes (Stream k f)
MultiFinishes count bytes (Err (Unequal k)) = IsMultistreamFault count bytes (Unequal k)
MultiFinishes count bytes (Err NoMemory) = IsSomeMultistream count bytes

-- a fact where memory wasn't refused
abbrev pub UnlessFull : Result ⊤ MultiFault → Type 0 → Type 0
UnlessFull (Ok done) Fact = Fact
UnlessFull (Err (Stream k f)) Fact = Fact
UnlessFull (Err (Unequal k)) Fact = Fact
UnlessFull (Err NoMemory) Fact = Unit {0}

-- where it stands behind a piece
abbrev pub MultiTells : Result ⊤ MultiFault → MultiFeed → MultiFeed → Type 0
MultiTells (Ok done) old new = new.place ≡ old.place
MultiTells (Err f) old new = new.place ≡ Failed f

-- and behind `finish`
abbrev pub MultiTellsEnd : Result ⊤ MultiFault → MultiFeed → Type 0
MultiTellsEnd (Ok done) new = new.place ≡ Done
MultiTellsEnd (Err f) new = new.place ≡ Failed f

-- once the input is over, or a fault was told, nothing changes
abbrev pub MultiAgainAt : MultiPlace → MultiFeed → Result ⊤ MultiFault → MultiFeed → Type 0
MultiAgainAt Reading old result new = Unit {0}
MultiAgainAt Done old result new = (result ≡ Ok tt) × (new ≡ old)
MultiAgainAt (Failed f) old result new = (result ≡ Err f) × (new ≡ old)

abbrev pub MultiAgain : MultiFeed → Result ⊤ MultiFault → MultiFeed → Type 0
MultiAgain old result new = MultiAgainAt old.place old result new

-- the parts when the input is over
abbrev pub EndedParts : MultiPlace → ℕ → Padding → List ℕ → List Part → Type 0
EndedParts Reading count padding bytes parts = ⊥
EndedParts Done count padding bytes parts = AreAllParts count padding bytes parts
EndedParts (Failed f) count padding bytes parts = AreFirstParts count padding bytes parts
