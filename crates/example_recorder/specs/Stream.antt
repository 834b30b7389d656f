-- A stream of self-delimited packets (RFC 6716, Appendix B).
use Rattle.std.specs.Prelude.{◌≡◌, ℕ, List, [], ◌∷◌, ◌++◌}
use Rattle.opus_packet.specs.declared.shape.Shape.{Shape}
use Rattle.opus_packet.specs.Value.{PacketValue}
use Rattle.opus_packet.specs.SelfGrammar.{SpellsSelf}

-- the bytes spell these packets, one after the other, and the rest stands behind them
abbrev pub IsStream : List PacketValue → List ℕ → List ℕ → Type 0
IsStream [] rest bytes = bytes ≡ rest
IsStream (v ∷ vs) rest bytes =
    (shape : Shape) × (own more : List ℕ) × SpellsSelf v shape own × (bytes ≡ own ++ more) × IsStream vs rest more
