-- What a recorder makes of the feed's answers.
use Rattle.std.proofs.Common.{◌≡◌, ℕ, zero, suc, ◌+◌, ◌-◌, ◌/◌, ◌%◌, ◌≤◌, true, false, nat_lt, if◌then◌else◌, List, [], ◌∷◌, ◌++◌, length, take, sym, ap, subst, ◌∙◌, arith, add-zero, length-append, lit≤, map}
use Rattle.std.proofs.Math.Seq.{take-append_seam, take-length}
use Rattle.std.proofs.lemmas.List.{length-take}
use Rattle.std.specs.List.{concat}
use Rattle.opus_flen.specs.FrameLength.{length_bytes}
use Rattle.opus_packet.specs.declared.shape.Shape.{Shape}
use Rattle.opus_packet.specs.Value.{PacketValue}
use Rattle.opus_packet.specs.Header.{header_bytes}
use Rattle.opus_packet.specs.PacketGrammar.{header_for}
use Rattle.opus_packet.specs.SelfGrammar.{BeginsWithSelf, SpellsSelf, last_length}
use Rattle.opus_packet.specs.Read.{PacketRead}
use Rattle.opus_self.specs.BecomesSelf.{BeginsWithNone}
use Rattle.opus_feed.specs.Answers.{IsRead, Ends}
use Rattle.opus_feed.specs.declared.framing.Framing.{Framing}
use Rattle.opus_feed.specs.declared.framing.Framing.TheVariants.{SelfDelimited}
use Rattle.opus_feed.specs.declared.padding.Padding.{Padding}
use Rattle.opus_feed.specs.declared.step.Step.TheVariants.{Done}

length_bytes-some : (n : ℕ) → 1 ≤ length (length_bytes n)
length_bytes-some n =
    elim (nat_lt n 252) as
    (λ b. 1 ≤ length (if b then n ∷ [] else (252 + n % 4) ∷ ((n - (252 + n % 4)) / 4) ∷ []))
    [ true ↦ lit≤ tt | false ↦ lit≤ tt ]

-- what has a length in it has a byte
around-some : (n : ℕ) (header frames tail : List ℕ) → 1 ≤ length (header ++ length_bytes n ++ frames ++ tail)
around-some n header frames tail =
    omega (
      arith,
      length_bytes-some n,
      length-append (header ++ length_bytes n ++ frames) tail,
      length-append (header ++ length_bytes n) frames,
      length-append header (length_bytes n),
    )

none-some : (used : ℕ) (bytes : List ℕ) → take used [] ≡ bytes → 1 ≤ length bytes → ⊥
none-some used bytes e some = omega (arith, ap (length {A = ℕ}) e, length-take {A = ℕ} used [], some)

-- no packet stands first in no bytes
pub None-begins : BeginsWithNone []
None-begins v s used b =
    let header = header_bytes (header_for v s) in
    none-some used _ b.spelled.1.spelled
    (around-some (last_length (map length v.frames)) header (concat v.frames) b.spelled.0)

-- a packet that ends behind bytes in which none stood first ends behind a later byte
pub Begins-some : (came piece : List ℕ) (v : PacketValue) (s : Shape) (used : ℕ) → BeginsWithNone came
    → BeginsWithSelf v s (length came + used) (came ++ piece) → 1 ≤ used
Begins-some came piece v s zero none b =
    let n : length came + zero ≡ length came = add-zero (length came) in
    let e : take (length came + zero) (came ++ piece) ≡ take (length came) came =
    ap (λ n. take n (came ++ piece)) n ∙ take-append_seam came piece ∙ sym (take-length came) in
    absurd (none v s (length came) (record { within = omega arith; spelled = subst (SpellsSelf v s) e b.spelled }))
Begins-some came piece v s (suc used) none b = omega arith

-- the packet that the feed holds is the one that ends in this piece
pub Read-begins : (piece came : List ℕ) (used : ℕ) (padding : Padding) (framing : Framing) (p : PacketRead) → framing ≡ SelfDelimited
    → IsRead framing padding (came ++ piece) p → Ends (length came) (came ++ piece) (Done used)
    → BeginsWithSelf p.value p.shape (length came + used) (came ++ piece)
Read-begins piece came used padding framing p own read ends =
    let told = subst (λ f. IsRead f padding (came ++ piece) p) own read in
    let begins : BeginsWithSelf p.value p.shape p.size (came ++ piece) = record { within = told.2; spelled = (told.0, told.1) } in
    subst (λ size. BeginsWithSelf p.value p.shape size (came ++ piece)) (ends p.value p.shape p.size begins) begins
