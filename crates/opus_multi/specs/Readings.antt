-- What reading a multistream packet gives.
use Rattle.std.specs.Prelude.{◌≡◌, ℕ, Bool, false, List, length, map, Result, Ok, Err}
use Rattle.opus_packet.specs.Read.{PacketRead}
use Rattle.opus_packet.specs.Tail.{tail_of}
use Rattle.opus_multi.specs.declared.fault.MultiFault.{MultiFault}
use Rattle.opus_multi.specs.declared.fault.MultiFault.TheVariants.{Stream, Unequal, NoMemory}
use Rattle.opus_multi.specs.Streams.{SpelledStream, StandFirst, AreStreams}
use Rattle.opus_multi.specs.Durations.{HaveOneDuration}
use Rattle.opus_multi.specs.Multistream.{durations_of}
use Rattle.opus_multi.specs.MultistreamFault.{IsMultistreamFault}
use Rattle.opus_multi.specs.Told.{Told}
use Rattle.opus_multi.specs.declared.durations.Durations.{Durations}

-- a stream as a packet: its padding bytes are kept up to 65,535 of them
abbrev pub stream_read : SpelledStream → PacketRead
stream_read s = record { value = s.value; shape = s.shape; size = s.size; tail = tail_of s.tail }

-- these are the packets of so many streams, which the bytes spell, and all last as long
pub record AreRead (count : ℕ) (bytes : List ℕ) (packets : List PacketRead) : Type 0 where
  pub streams : List SpelledStream
  pub counted : length streams ≡ count
  pub packets_are : packets ≡ map stream_read streams
  pub are : AreStreams streams bytes
  pub duration : HaveOneDuration (durations_of streams)

-- a fault is that of the bytes, or memory was refused
abbrev pub IsFaultOf : ℕ → List ℕ → MultiFault → Type 0
IsFaultOf count bytes (Stream k f) = IsMultistreamFault count bytes (Stream k f)
IsFaultOf count bytes (Unequal k) = IsMultistreamFault count bytes (Unequal k)
IsFaultOf count bytes NoMemory = Unit {0}

-- a multistream packet is read where memory is found
abbrev pub IsOkUnlessFull : {A : Type 0} → Result A MultiFault → Type 0
IsOkUnlessFull (Ok x) = Unit {0}
IsOkUnlessFull (Err (Stream k f)) = ⊥
IsOkUnlessFull (Err (Unequal k)) = ⊥
IsOkUnlessFull (Err NoMemory) = Unit {0}

-- so many packets stand first, and the rest behind them
pub record ReadFirst (count : ℕ) (bytes rest : List ℕ) (durations : Durations) (packets : List PacketRead) : Type 0 where
  pub first : List SpelledStream
  pub counted : length first ≡ count
  pub packets_are : packets ≡ map stream_read first
  pub stand : StandFirst first bytes rest
  pub told : Told durations (durations_of first)

-- so many packets stand first, which are kept where memory was found for each
pub record ReadSoFar (count : ℕ) (bytes rest : List ℕ) (durations : Durations) (full : Bool) (packets : List PacketRead) : Type 0 where
  pub all : List PacketRead
  pub read : ReadFirst count bytes rest durations all
  pub kept : full ≡ false → packets ≡ all
