-- What two of the rules refuse (RFC 6716, 3.4), in a packet's own terms.
use Rattle.std.specs.Prelude.{◌≡◌, ℕ, ◌*◌, ◌<◌, ◌⊎◌, List, [], ◌∷◌, length}
use Rattle.opus_toc.specs.Toc.{config_of, code_of}
use Rattle.opus_toc.specs.Configuration.{samples_of}
use Rattle.opus_packet.specs.declared.shape.Shape.{Shape}
use Rattle.opus_packet.specs.Value.{PacketValue, max_duration}
use Rattle.opus_packet.specs.Header.{Header}
use Rattle.opus_packet.specs.HeaderRead.{frames_of}
use Rattle.opus_packet.specs.PacketGrammar.{header_for, Spells}
use Rattle.opus_packet.specs.PacketHeader.{BeginsWithPacketHeader}

-- R5: the count byte of code 3 says no frames, or frames that last more than 120 ms
abbrev pub HasBadCount : List ℕ → Type 0
HasBadCount [] = ⊥
HasBadCount (toc ∷ []) = ⊥
HasBadCount (toc ∷ count ∷ bytes) =
    (code_of toc ≡ 3)
    × ((frames_of count ≡ 0) ⊎ (max_duration < frames_of count * samples_of (config_of toc)))

-- R2: the bytes begin with a packet's header, and every packet with this header is shorter
pub record IsPastLongest (bytes : List ℕ) : Type 0 where
  pub header : Header
  pub begins : BeginsWithPacketHeader bytes header
  pub shorter : (v : PacketValue) (s : Shape) (packet : List ℕ) → header_for v s ≡ header
      → Spells v s packet → length packet < length bytes
