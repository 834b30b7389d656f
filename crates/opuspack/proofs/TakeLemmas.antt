-- What a made record is, by its bytes.
use Rattle.std.proofs.Common.{◌≡◌, ℕ, List, [], ◌∷◌, length, None, Some, refl, sym, ap, ◌∙◌, subst, arith}
use Rattle.opus_packet.specs.declared.shape.Shape.{Shape}
use Rattle.opus_packet.specs.Value.{PacketValue}
use Rattle.opus_packet.specs.PacketGrammar.{Spells}
use Rattle.opuspack.specs.declared.made.MadeRecord.{MadeRecord}
use Rattle.opuspack.specs.Made.{IsMade, made_bytes}
use Rattle.opuspack.specs.Totals.{packet_in}
use Rattle.opuspack.proofs.MadePacketLemmas.{made_packet-is, no_bytes-lost, bytes-packet}

no_length : (bytes : List ℕ) → length bytes ≡ 0 → bytes ≡ []
no_length [] none = refl
no_length (b ∷ bytes) none = absurd (omega (arith, none))

-- without bytes it is lost
pub record IsLost (r : MadeRecord) : Type 0 where
  pub lost : packet_in r ≡ None
  pub empty : made_bytes r.seed r.number ≡ []

pub none-lost : (r : MadeRecord) (bytes : List ℕ) → IsMade r bytes → length bytes ≡ 0 → IsLost r
none-lost r bytes is none =
    let empty = sym is ∙ no_length bytes none in
    record { lost = no_bytes-lost r.seed r.number empty; empty = empty }

-- with bytes they are a packet
pub record HasPacket (r : MadeRecord) (bytes : List ℕ) : Type 0 where
  pub value : PacketValue
  pub shape : Shape
  pub is : packet_in r ≡ Some value
  pub spelled : Spells value shape bytes

pub some-packet : (r : MadeRecord) (bytes : List ℕ) → IsMade r bytes → (length bytes ≡ 0 → ⊥) → HasPacket r bytes
some-packet r bytes is some =
    let found = bytes-packet r.seed r.number (λ none. some (ap length (is ∙ none))) in
    let packet = made_packet-is r.seed r.number found.0 found.1 in
    record {
      value = found.0;
      shape = packet.shape;
      is = found.1;
      spelled = subst (λ (l : List ℕ). Spells found.0 packet.shape l) (sym is) packet.spelled;
    }
