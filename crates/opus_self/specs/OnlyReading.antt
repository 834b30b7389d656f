-- The one reading of some bytes.
use Rattle.std.specs.Prelude.{◌≡◌, List, ℕ}
use Rattle.opus_packet.specs.declared.shape.Shape.{Shape}
use Rattle.opus_packet.specs.Value.{PacketValue}
use Rattle.opus_packet.specs.SelfGrammar.{SpellsSelf}
use Rattle.opus_packet.specs.Read.{PacketRead}

-- whatever self-delimited packet the bytes spell, it is this one
abbrev pub IsOnlyReading : PacketRead → List ℕ → Type 0
IsOnlyReading p bytes =
    (v : PacketValue) (s : Shape) → SpellsSelf v s bytes → (p.value ≡ v) × (p.shape ≡ s)
