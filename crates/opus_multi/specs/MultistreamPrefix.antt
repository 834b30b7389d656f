-- What can still become the packets of so many streams. The definition is arithmetic on the stream that has begun; a law
-- in src/laws.rt says that it means: some continuation completes it.
use Rattle.std.specs.Prelude.{◌≡◌, ℕ, ◌<◌, List, ◌++◌, length}
use Rattle.opus_packet.specs.PacketPrefix.{AreBytes}
use Rattle.opus_feed.specs.Packets.{IsPrefix}
use Rattle.opus_multi.specs.Streams.{SpelledStream, StandFirst, AreStreams}
use Rattle.opus_multi.specs.MultistreamFault.{framing_of}

-- some streams stand first, and what follows can become the packet of the next one
pub record IsMultistreamPrefix (count : ℕ) (bytes : List ℕ) : Type 0 where
  pub first : List SpelledStream
  pub rest : List ℕ
  pub within : length first < count
  pub stand : StandFirst first bytes rest
  pub can : IsPrefix (framing_of count (length first)) rest

-- some continuation is the packets of so many streams
pub record BecomesStreams (count : ℕ) (bytes : List ℕ) : Type 0 where
  pub more : List ℕ
  pub are_bytes : AreBytes more
  pub streams : List SpelledStream
  pub counted : length streams ≡ count
  pub are : AreStreams streams (bytes ++ more)
