-- What a feed answers of all bytes since the last reset, in the definitions' words.
use Rattle.std.specs.Prelude.{◌≡◌, ℕ, ◌+◌, ◌≤◌, List, length, take, Result, Ok, Err, ⊤}
use Rattle.opus_packet.specs.declared.shape.Shape.{Shape}
use Rattle.opus_packet.specs.declared.fault.Fault.{Fault}
use Rattle.opus_packet.specs.Value.{PacketValue}
use Rattle.opus_packet.specs.PacketPrefix.{IsPacketPrefix}
use Rattle.opus_packet.specs.PacketGrammar.{IsPacket, IsSomePacket}
use Rattle.opus_packet.specs.SelfGrammar.{IsSelfDelimited, BeginsWithSelf}
use Rattle.opus_packet.specs.Read.{PacketRead}
use Rattle.opus_packet.specs.LongestPrefix.{IsLongestPrefix}
use Rattle.opus_packet.specs.SelfPrefix.{IsSelfDelimitedPrefix}
use Rattle.opus_self.specs.BecomesSelf.{BeginsWithNone}
use Rattle.opus_self.specs.LongestSelfPrefix.{IsLongestSelfPrefix}
use Rattle.opus_feed.specs.Tails.{tail_kept}
use Rattle.opus_feed.specs.declared.padding.Padding.{Padding}
use Rattle.opus_feed.specs.Packets.{Refuses, IsNone, fault_of}
use Rattle.opus_feed.specs.declared.framing.Framing.{Framing}
use Rattle.opus_feed.specs.declared.framing.Framing.TheVariants.{Whole, SelfDelimited}
use Rattle.opus_feed.specs.declared.step.Step.{Step}
use Rattle.opus_feed.specs.declared.step.Step.TheVariants.{More, Done, Refused}

-- the bytes begin with a self-delimited packet
abbrev pub BeginsWithSome : List ℕ → Type 0
BeginsWithSome bytes = (v : PacketValue) × (s : Shape) × (size : ℕ) × BeginsWithSelf v s size bytes

-- more: they can become a packet, and no self-delimited one is whole; done: one is whole; refused: they can't
-- become a packet, and the fault is theirs
abbrev pub Answers : Framing → List ℕ → Step → Type 0
Answers Whole bytes More = IsPacketPrefix bytes
Answers Whole bytes (Done used) = ⊥
Answers Whole bytes (Refused f) = Refuses Whole f bytes
Answers SelfDelimited bytes More = IsSelfDelimitedPrefix bytes × BeginsWithNone bytes
Answers SelfDelimited bytes (Done used) = BeginsWithSome bytes
Answers SelfDelimited bytes (Refused f) = Refuses SelfDelimited f bytes

-- the packet ends behind so many bytes of the last piece, where so many bytes came before it
abbrev pub Ends : ℕ → List ℕ → Step → Type 0
Ends before bytes More = Unit {0}
Ends before bytes (Done used) =
    (v : PacketValue) (s : Shape) (size : ℕ) → BeginsWithSelf v s size bytes → size ≡ before + used
Ends before bytes (Refused f) = Unit {0}

-- a packet that is answered has a byte of the last piece
abbrev pub TakesSome : Step → Type 0
TakesSome More = Unit {0}
TakesSome (Done used) = 1 ≤ used
TakesSome (Refused f) = Unit {0}

-- Ok: the bytes are a packet, or begin with a self-delimited one; a fault: they aren't, or don't, and it is theirs
abbrev pub Finishes : Framing → List ℕ → Result ⊤ Fault → Type 0
Finishes Whole bytes (Ok done) = IsSomePacket bytes
Finishes SelfDelimited bytes (Ok done) = BeginsWithSome bytes
Finishes framing bytes (Err f) = IsNone framing bytes × (f ≡ fault_of framing bytes)

-- the packet is the one that the bytes are, or begin with, and its padding bytes are those at its end, as far as
-- they are kept
abbrev pub IsRead : Framing → Padding → List ℕ → PacketRead → Type 0
IsRead Whole padding bytes p =
    (q : List ℕ) × IsPacket p.value p.shape q bytes × (p.size ≡ length bytes) × (p.tail ≡ tail_kept padding q)
IsRead SelfDelimited padding bytes p =
    (q : List ℕ) × IsSelfDelimited p.value p.shape q (take p.size bytes) × (p.size ≤ length bytes)
    × (p.tail ≡ tail_kept padding q)

-- the longest front of the bytes that a packet can have has so many
abbrev pub IsLongest : Framing → List ℕ → ℕ → Type 0
IsLongest Whole bytes size = IsLongestPrefix bytes size
IsLongest SelfDelimited bytes size = IsLongestSelfPrefix bytes size
