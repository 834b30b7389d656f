-- Packets of both framings, by the definitions of each.
use Rattle.std.specs.Prelude.{◌≡◌, ℕ, List}
use Rattle.opus_packet.specs.declared.shape.Shape.{Shape}
use Rattle.opus_packet.specs.declared.fault.Fault.{Fault}
use Rattle.opus_packet.specs.Value.{PacketValue}
use Rattle.opus_packet.specs.PacketGrammar.{Spells}
use Rattle.opus_packet.specs.PacketPrefix.{IsPacketPrefix}
use Rattle.opus_packet.specs.PacketFault.{packet_fault}
use Rattle.opus_packet.specs.SelfPrefix.{IsSelfDelimitedPrefix, self_delimited_fault}
use Rattle.opus_self.specs.BecomesSelf.{BeginsWithNone}
use Rattle.opus_feed.specs.declared.framing.Framing.{Framing}
use Rattle.opus_feed.specs.declared.framing.Framing.TheVariants.{Whole, SelfDelimited}

-- the bytes are no packet, or begin with none
abbrev pub IsNone : Framing → List ℕ → Type 0
IsNone Whole bytes = (v : PacketValue) (s : Shape) → Spells v s bytes → ⊥
IsNone SelfDelimited bytes = BeginsWithNone bytes

-- the bytes can become a packet
abbrev pub IsPrefix : Framing → List ℕ → Type 0
IsPrefix Whole bytes = IsPacketPrefix bytes
IsPrefix SelfDelimited bytes = IsSelfDelimitedPrefix bytes

-- the fault of bytes that are no packet, or begin with none
abbrev pub fault_of : Framing → List ℕ → Fault
fault_of Whole bytes = packet_fault bytes
fault_of SelfDelimited bytes = self_delimited_fault bytes

-- no packet begins as the bytes do, and the fault is theirs
pub record Refuses (framing : Framing) (f : Fault) (bytes : List ℕ) : Type 0 where
  pub prefix : IsPrefix framing bytes → ⊥
  pub none : IsNone framing bytes
  pub fault_is : f ≡ fault_of framing bytes
