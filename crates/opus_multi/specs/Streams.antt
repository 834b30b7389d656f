-- The streams of a multistream packet (RFC 7845, section 3): N - 1 self-delimited Opus packets, and then an undelimited
-- one.
use Rattle.std.specs.Prelude.{◌≡◌, ℕ, ◌≤◌, List, [], ◌∷◌, ◌++◌, length, take, drop}
use Rattle.opus_packet.specs.declared.shape.Shape.{Shape}
use Rattle.opus_packet.specs.Value.{PacketValue}
use Rattle.opus_packet.specs.PacketGrammar.{IsPacket}
use Rattle.opus_packet.specs.SelfGrammar.{IsSelfDelimited}

-- the packet of one stream as it was spelled, in so many bytes, with these padding bytes at its end
pub record SpelledStream : Type 0 where
  pub value : PacketValue
  pub shape : Shape
  pub size : ℕ
  pub tail : List ℕ

-- the stream's packet stands first, self-delimited (RFC 6716, Appendix B)
pub record BeginsWithStream (s : SpelledStream) (bytes : List ℕ) : Type 0 where
  pub within : s.size ≤ length bytes
  pub spelled : IsSelfDelimited s.value s.shape s.tail (take s.size bytes)

-- self-delimited packets of these streams stand first, one after another, and the rest behind them
abbrev pub StandFirst : List SpelledStream → List ℕ → List ℕ → Type 0
StandFirst [] bytes rest = bytes ≡ rest
StandFirst (s ∷ ss) bytes rest = BeginsWithStream s bytes × StandFirst ss (drop s.size bytes) rest

-- all of the bytes are the stream's packet, undelimited (RFC 6716, section 3)
pub record IsLastStream (s : SpelledStream) (bytes : List ℕ) : Type 0 where
  pub size_is : s.size ≡ length bytes
  pub spelled : IsPacket s.value s.shape s.tail bytes

-- the bytes are self-delimited packets of all streams but the last, in order, and then an undelimited one of the last
pub record AreStreams (ss : List SpelledStream) (bytes : List ℕ) : Type 0 where
  pub front : List SpelledStream
  pub last : SpelledStream
  pub rest : List ℕ
  pub streams_are : ss ≡ front ++ last ∷ []
  pub stand : StandFirst front bytes rest
  pub ends : IsLastStream last rest
