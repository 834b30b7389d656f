-- Why bytes aren't a multistream packet of so many streams: this project's choice among the faults.
use Rattle.std.specs.Prelude.{◌≡◌, ℕ, ◌+◌, ◌<◌, nat_lt, if◌then◌else◌, List, length}
use Rattle.opus_packet.specs.declared.fault.Fault.{Fault}
use Rattle.opus_feed.specs.declared.framing.Framing.{Framing}
use Rattle.opus_feed.specs.declared.framing.Framing.TheVariants.{Whole, SelfDelimited}
use Rattle.opus_feed.specs.Packets.{IsNone, fault_of}
use Rattle.opus_multi.specs.declared.fault.MultiFault.{MultiFault}
use Rattle.opus_multi.specs.declared.fault.MultiFault.TheVariants.{Stream, Unequal, NoMemory}
use Rattle.opus_multi.specs.Streams.{SpelledStream, StandFirst, AreStreams}
use Rattle.opus_multi.specs.Durations.{IsUnequalAt}
use Rattle.opus_multi.specs.Multistream.{durations_of}

-- all streams but the last are self-delimited
abbrev pub framing_of : ℕ → ℕ → Framing
framing_of count k = if nat_lt (k + 1) count then SelfDelimited else Whole

-- stream k is the first that doesn't read, and the fault is that of the bytes from the stream on
pub record IsBroken (count : ℕ) (bytes : List ℕ) (k : ℕ) (f : Fault) : Type 0 where
  pub first : List SpelledStream
  pub rest : List ℕ
  pub counted : length first ≡ k
  pub within : k < count
  pub stand : StandFirst first bytes rest
  pub none : IsNone (framing_of count k) rest
  pub fault_is : f ≡ fault_of (framing_of count k) rest

-- all streams read, and k is the first whose duration differs from that of stream 0
pub record AreUnequal (count : ℕ) (bytes : List ℕ) (k : ℕ) : Type 0 where
  pub streams : List SpelledStream
  pub counted : length streams ≡ count
  pub are : AreStreams streams bytes
  pub unequal : IsUnequalAt (durations_of streams) k

-- the fault of bytes that are no multistream packet of so many streams
abbrev pub IsMultistreamFault : ℕ → List ℕ → MultiFault → Type 0
IsMultistreamFault count bytes (Stream k f) = IsBroken count bytes k f
IsMultistreamFault count bytes (Unequal k) = AreUnequal count bytes k
IsMultistreamFault count bytes NoMemory = ⊥
