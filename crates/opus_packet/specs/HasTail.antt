-- The padding bytes of a packet that was read.
use Rattle.std.specs.Prelude.{◌≡◌, ℕ, List}
use Rattle.opus_packet.specs.PacketGrammar.{IsPacket}
use Rattle.opus_packet.specs.Tail.{tail_of}
use Rattle.opus_packet.specs.Read.{PacketRead}

-- its tail is that of its spelling
abbrev pub HasTail : PacketRead → List ℕ → Type 0
HasTail p bytes = (q : List ℕ) × IsPacket p.value p.shape q bytes × (p.tail ≡ tail_of q)
