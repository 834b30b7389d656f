-- Multistream packets (RFC 7845, section 3).
use Rattle.std.specs.Prelude.{◌≡◌, ℕ, List, map}
use Rattle.opus_packet.specs.Value.{PacketValue, duration_of}
use Rattle.opus_multi.specs.Streams.{SpelledStream, AreStreams}
use Rattle.opus_multi.specs.Durations.{HaveOneDuration}

-- samples at 48 kHz of each stream
abbrev pub durations_of : List SpelledStream → List ℕ
durations_of ss = map (λ s. duration_of s.value) ss

-- the bytes spell these values, one for each stream, with these padding bytes, and all last as long
pub record IsMultistream (vs : List PacketValue) (qs : List (List ℕ)) (bytes : List ℕ) : Type 0 where
  pub streams : List SpelledStream
  pub values_are : vs ≡ map (λ s. s.value) streams
  pub tails_are : qs ≡ map (λ s. s.tail) streams
  pub are : AreStreams streams bytes
  pub duration : HaveOneDuration (durations_of streams)
