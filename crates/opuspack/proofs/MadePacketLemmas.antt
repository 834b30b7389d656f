-- The packets of a seed.
use Rattle.std.proofs.Common.{◌≡◌, ℕ, Bool, true, false, List, [], ◌++◌, length, Option, None, Some, refl, ap, subst, length-append, arith}
use Rattle.std.specs.List.{concat}
use Rattle.opus_packet.specs.declared.shape.Shape.{Shape}
use Rattle.opus_packet.specs.Value.{PacketValue}
use Rattle.opus_packet.specs.Header.{header_bytes}
use Rattle.opus_packet.specs.PacketGrammar.{header_for, Spells}
use Rattle.opus_packet.specs.PacketPrefix.{AreBytes}
use Rattle.opus_make.specs.Draws.{next_state}
use Rattle.opus_make.specs.Plan.{plan_at}
use Rattle.opus_make.specs.Written.{padding_of}
use Rattle.opus_make.specs.Generated.{is_lost_at, record_at, state_before, record_bytes}
use Rattle.opus_make.proofs.PlanLemmas.{plan_at-limits}
use Rattle.opuspack.specs.Made.{made_bytes}
use Rattle.opuspack.specs.MadePackets.{packet_at, made_packet}
use Rattle.opuspack.proofs.PlanLemmas.{plan_shape, frames-bytes, packet-is}

-- bytes are a packet, whose frames are bytes too
pub record IsPacketOf (v : PacketValue) (bytes : List ℕ) : Type 0 where
  pub shape : Shape
  pub spelled : Spells v shape bytes
  pub frames : AreBytes (concat v.frames)

-- what the bytes of a record are, by what it is
abbrev pub IsRecord : Option PacketValue → List ℕ → Type 0
IsRecord None bytes = bytes ≡ []
IsRecord (Some v) bytes = IsPacketOf v bytes

record_by : (b : Bool) (state : ℕ) → is_lost_at state ≡ b → IsRecord (packet_at state) (record_bytes (record_at state))
record_by true state is = rw is refl
record_by false state is =
    let plan = plan_at (next_state state) in
    rw is (record {
      shape = plan_shape plan;
      spelled = (padding_of plan.form, packet-is plan (plan_at-limits (next_state state)));
      frames = frames-bytes 0 plan.lengths;
    })

pub made_record-is : (seed number : ℕ) → IsRecord (made_packet seed number) (made_bytes seed number)
unfolding made_packet made_bytes
made_record-is seed number =
    let state = state_before seed number in
    record_by (is_lost_at state) state refl

pub made_packet-is : (seed number : ℕ) (v : PacketValue) → made_packet seed number ≡ Some v → IsPacketOf v (made_bytes seed number)
made_packet-is seed number v is = subst (λ (o : Option PacketValue). IsRecord o (made_bytes seed number)) is (made_record-is seed number)

pub made_packet-spelled : (seed number : ℕ) (v : PacketValue) → made_packet seed number ≡ Some v
    → (shape : Shape) × Spells v shape (made_bytes seed number)
made_packet-spelled seed number v is =
    let packet = made_packet-is seed number v is in (packet.shape, packet.spelled)

pub made_packet-lost : (seed number : ℕ) → made_packet seed number ≡ None → made_bytes seed number ≡ []
made_packet-lost seed number is = subst (λ (o : Option PacketValue). IsRecord o (made_bytes seed number)) is (made_record-is seed number)

-- a packet has bytes
packet-some : (v : PacketValue) (bytes : List ℕ) → IsPacketOf v bytes → bytes ≡ [] → ⊥
unfolding header_bytes
packet-some v bytes is none =
    let packet = is.spelled.1 in
    let header = header_bytes (header_for v is.shape) in
    let size = length-append header (concat v.frames) in
    let whole = length-append (header ++ concat v.frames) is.spelled.0 in
    absurd (omega (arith, ap length none, ap length packet.spelled, size, whole))

-- which of both a record is shows in its bytes

lost_by : (o : Option PacketValue) (bytes : List ℕ) → IsRecord o bytes → bytes ≡ [] → o ≡ None
lost_by None bytes is none = refl
lost_by (Some v) bytes is none = absurd (packet-some v bytes is none)

pub no_bytes-lost : (seed number : ℕ) → made_bytes seed number ≡ [] → made_packet seed number ≡ None
no_bytes-lost seed number none = lost_by (made_packet seed number) (made_bytes seed number) (made_record-is seed number) none

packet_by : (o : Option PacketValue) (bytes : List ℕ) → IsRecord o bytes → (bytes ≡ [] → ⊥) → (v : PacketValue) × (o ≡ Some v)
packet_by None bytes is some = absurd (some is)
packet_by (Some v) bytes is some = (v, refl)

pub bytes-packet : (seed number : ℕ) → (made_bytes seed number ≡ [] → ⊥) → (v : PacketValue) × (made_packet seed number ≡ Some v)
bytes-packet seed number some = packet_by (made_packet seed number) (made_bytes seed number) (made_record-is seed number) some
