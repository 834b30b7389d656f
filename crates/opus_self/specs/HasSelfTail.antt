-- The padding bytes of a self-delimited packet that was read.
use Rattle.std.specs.Prelude.{◌≡◌, ℕ, List}
use Rattle.opus_packet.specs.SelfGrammar.{IsSelfDelimited}
use Rattle.opus_packet.specs.Tail.{tail_of}
use Rattle.opus_packet.specs.Read.{PacketRead}

-- its tail is that of its spelling
abbrev pub HasSelfTail : PacketRead → List ℕ → Type 0
HasSelfTail p bytes = (q : List ℕ) × IsSelfDelimited p.value p.shape q bytes × (p.tail ≡ tail_of q)
