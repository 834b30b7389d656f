-- What follows a header: one packet at most, by the last frame's length.
use Rattle.std.proofs.Common.{◌≡◌, ℕ, ◌+◌, ◌-◌, ◌<◌, ◌≤◌, List, length, sym, ◌∙◌, subst, arith}
use Rattle.opus_packet.specs.declared.fault.Rule.{Rule}
use Rattle.opus_packet.specs.declared.shape.Shape.{Shape}
use Rattle.opus_packet.specs.Value.{PacketValue, max_frame}
use Rattle.opus_packet.specs.Header.{Header, header_bytes, body_size, padding_data}
use Rattle.opus_packet.specs.HeaderRead.{HeaderRead, whole, partial, refused, header_read}
use Rattle.opus_packet.specs.HeaderStands.{value_at}
use Rattle.opus_packet.specs.PacketGrammar.{Spells, header_for}
use Rattle.opus_packet.specs.PacketPrefix.{AreBytes}
pub use Rattle.opus_packet.proofs.BytesLemmas.{AreBytes-from}
use Rattle.opus_packet.proofs.GrammarLemmas.{found, only, body_size-le, same_header, IsPacket-unique}

-- what is spelled has a last frame that fits, and the size that goes with it
pub record IsSizedAt (h : Header) (bytes : List ℕ) (n : ℕ) : Type 0 where
  pub fits : n ≤ max_frame
  pub size : length bytes ≡ length (header_bytes h) + body_size h.sizes n + padding_data h.shape.pad

pub spelled_size : (h : Header) (bytes : List ℕ) (v : PacketValue) (s : Shape)
    → header_read bytes ≡ whole h → Spells v s bytes → (n : ℕ) × IsSizedAt h bytes n
spelled_size h bytes v s said spelled =
    let (n, at) = only v s spelled.0 bytes spelled.1 in
    let same : header_for v s ≡ h = same_header (sym at.read ∙ said) in
    (n, record { fits = at.fits; size = subst (λ (g : Header). length bytes ≡ length (header_bytes g) + body_size g.sizes n + padding_data g.shape.pad) same at.size })

-- no packet is longer than the longest with its header
pub too_long : (h : Header) (bytes : List ℕ) (v : PacketValue) (s : Shape) → header_read bytes ≡ whole h
    → length (header_bytes h) + body_size h.sizes max_frame + padding_data h.shape.pad < length bytes
    → Spells v s bytes → ⊥
too_long h bytes v s said long spelled =
    let (n, at) = spelled_size h bytes v s said spelled in
    omega (arith, at.size, long, body_size-le h.sizes n max_frame at.fits)

-- the packet that was found is the one that is spelled
pub found_only : (h : Header) (bytes : List ℕ) (n : ℕ) → AreBytes bytes → header_read bytes ≡ whole h
    → n ≤ max_frame
    → length bytes ≡ length (header_bytes h) + body_size h.sizes n + padding_data h.shape.pad
    → (v : PacketValue) (s : Shape) → Spells v s bytes → (value_at h n bytes ≡ v) × (h.shape ≡ s)
found_only h bytes n are said fits size v s spelled =
    let same = IsPacket-unique (value_at h n bytes) v h.shape s _ spelled.0 bytes (found bytes are h said n fits size) spelled.1 in
    (same.0, same.1)

-- no last frame fills the rest
pub not_filled : (h : Header) (bytes : List ℕ) (v : PacketValue) (s : Shape) (used tail : ℕ)
    → header_read bytes ≡ whole h → used ≡ length (header_bytes h) → tail ≡ padding_data h.shape.pad
    → ((n : ℕ) → length bytes - used ≡ body_size h.sizes n + tail → ⊥) → Spells v s bytes → ⊥
not_filled h bytes v s used tail said used_is tail_is none spelled =
    let (n, at) = spelled_size h bytes v s said spelled in
    none n (omega (arith, at.size, used_is, tail_is))

-- what begins with no header isn't spelled
pub no_header : (bytes : List ℕ) (v : PacketValue) (s : Shape) (said : HeaderRead)
    → header_read bytes ≡ said → ((h : Header) → whole h ≡ said → ⊥) → Spells v s bytes → ⊥
no_header bytes v s said is none spelled =
    let (n, at) = only v s spelled.0 bytes spelled.1 in
    none (header_for v s) (sym at.read ∙ is)

pub whole≢partial : (h : Header) → whole h ≡ partial → ⊥
whole≢partial h e = cc

pub whole≢refused : (rule : Rule) (place : ℕ) (h : Header) → whole h ≡ refused rule place → ⊥
whole≢refused rule place h e = cc
