-- The parts of a multistream packet's streams, as a feed keeps them.
use Rattle.std.specs.Prelude.{◌≡◌, ℕ, ◌+◌, ◌<◌, List, length, map}
use Rattle.opus_packet.specs.Read.{PacketRead}
use Rattle.opus_self.specs.BecomesSelf.{BeginsWithNone}
use Rattle.opus_feed.specs.declared.padding.Padding.{Padding}
use Rattle.opus_feed.specs.Tails.{tail_kept}
use Rattle.opus_multi.specs.declared.part.Part.{Part}
use Rattle.opus_multi.specs.Parts.{held_in, dropped_of}
use Rattle.opus_multi.specs.Streams.{SpelledStream, StandFirst, AreStreams}
use Rattle.opus_multi.specs.Durations.{HaveOneDuration}
use Rattle.opus_multi.specs.Multistream.{durations_of}

-- a stream as a packet whose padding bytes are kept or counted as the choice of padding says
abbrev pub read_with : Padding → SpelledStream → PacketRead
read_with padding s = record { value = s.value; shape = s.shape; size = s.size; tail = tail_kept padding s.tail }

-- the part of a packet
abbrev pub part_as : PacketRead → Part
part_as p = record {
  held = held_in p;
  shape = p.shape;
  size = p.size;
  dropped = dropped_of p.tail;
}

-- the part of a stream
abbrev pub part_of : Padding → SpelledStream → Part
part_of padding s = part_as (read_with padding s)

-- the parts of the streams that are whole among all but the last
pub record AreFirstParts (count : ℕ) (padding : Padding) (bytes : List ℕ) (parts : List Part) : Type 0 where
  pub first : List SpelledStream
  pub rest : List ℕ
  pub within : length first < count
  pub stand : StandFirst first bytes rest
  pub none : length first + 1 < count → BeginsWithNone rest
  pub parts_are : parts ≡ map (part_of padding) first

-- the parts of all streams of a multistream packet
pub record AreAllParts (count : ℕ) (padding : Padding) (bytes : List ℕ) (parts : List Part) : Type 0 where
  pub streams : List SpelledStream
  pub counted : length streams ≡ count
  pub are : AreStreams streams bytes
  pub duration : HaveOneDuration (durations_of streams)
  pub parts_are : parts ≡ map (part_of padding) streams
