-- What becomes a self-delimited packet.
use Rattle.std.specs.Prelude.{ℕ, ◌≤◌, List, ◌++◌, length}
use Rattle.opus_packet.specs.declared.shape.Shape.{Shape}
use Rattle.opus_packet.specs.Value.{PacketValue}
use Rattle.opus_packet.specs.PacketPrefix.{AreBytes}
use Rattle.opus_packet.specs.SelfGrammar.{BeginsWithSelf}

-- some continuation begins with a self-delimited packet that has all of the bytes in it
pub record BecomesSelf (bytes : List ℕ) : Type 0 where
  pub more : List ℕ
  pub are_bytes : AreBytes more
  pub value : PacketValue
  pub shape : Shape
  pub used : ℕ
  pub begins : BeginsWithSelf value shape used (bytes ++ more)
  pub all : length bytes ≤ used

-- no self-delimited packet stands first
abbrev pub BeginsWithNone : List ℕ → Type 0
BeginsWithNone bytes =
    (v : PacketValue) (shape : Shape) (used : ℕ) → BeginsWithSelf v shape used bytes → ⊥
