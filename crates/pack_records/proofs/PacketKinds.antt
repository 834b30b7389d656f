-- Each list of bytes is a packet or none, and begins with a self-delimited packet or with none.
use Rattle.std.proofs.Common.{◌≡◌, ◌⊎◌, inl, inr, ℕ, ◌≤◌, ◌<◌, List, length, Option, Some, None, refl, sym, ap, ◌∙◌, arith}
use Rattle.std.proofs.lemmas.Bool.{cases_lt}
use Rattle.opus_packet.specs.declared.shape.Shape.{Shape}
use Rattle.opus_packet.specs.Value.{PacketValue}
use Rattle.opus_packet.specs.Header.{Header, header_bytes}
use Rattle.opus_packet.specs.PacketGrammar.{Spells, header_for}
use Rattle.opus_packet.specs.PacketPrefix.{AreBytes}
use Rattle.opus_packet.specs.SelfGrammar.{BeginsWithSelf}
use Rattle.opus_packet.specs.SelfPrefix.{SelfHeaderRead, sized, unsized, never, self_header_read, self_size}
use Rattle.opus_self.specs.BecomesSelf.{BeginsWithNone}
use Rattle.opus_self.proofs.SelfLemmas.{last_of, begins_only}
use Rattle.opus_self.proofs.SizedLemmas.{begins_found}
use Rattle.opus_feed.specs.declared.framing.Framing.TheVariants.{Whole}
use Rattle.pack_records.specs.Lent.{lent_value}
use Rattle.pack_records.proofs.LentLemmas.{lent_value-spelled, lent_value-only}

-- all of the bytes are a packet
pub record IsWhole (bytes : List ℕ) : Type 0 where
  pub value : PacketValue
  pub shape : Shape
  pub spells : Spells value shape bytes

pub whole_or_none : (bytes : List ℕ) → AreBytes bytes
    → IsWhole bytes ⊎ ((v : PacketValue) (s : Shape) → Spells v s bytes → ⊥)
whole_or_none bytes are = go (lent_value Whole bytes) refl
  where
    go : (o : Option PacketValue) → lent_value Whole bytes ≡ o
        → IsWhole bytes ⊎ ((v : PacketValue) (s : Shape) → Spells v s bytes → ⊥)
    go (Some v) is =
        let (s, tail, reads) = lent_value-only Whole v bytes are is in
        inl record { value = v; shape = s; spells = (tail, reads) }
    go None is = inr none
      where
        none : (v : PacketValue) (s : Shape) → Spells v s bytes → ⊥
        none v s (tail, reads) =
            let e : None ≡ Some v = sym is ∙ lent_value-spelled Whole v s tail bytes reads in
            absurd cc

-- a self-delimited packet stands first
pub record BeginsWithSome (bytes : List ℕ) : Type 0 where
  pub value : PacketValue
  pub shape : Shape
  pub used : ℕ
  pub begins : BeginsWithSelf value shape used bytes

pub begins_or_none : (bytes : List ℕ) → AreBytes bytes → BeginsWithSome bytes ⊎ BeginsWithNone bytes
begins_or_none bytes are = go (self_header_read bytes) refl
  where
    short : (h : Header) (n : ℕ) → self_header_read bytes ≡ sized h n → length bytes < self_size h n
        → BeginsWithNone bytes
    short h n read less v s used b =
        let r = begins_only v s used bytes b in
        let same : sized (header_for v s) (last_of v) ≡ sized h n = sym r.read ∙ read in
        let header : header_for v s ≡ h = cc in
        let last : last_of v ≡ n = cc in
        let size : used ≡ self_size h n = r.used_is ∙ ap (λ k. self_size k (last_of v)) header ∙ ap (self_size h) last in
        omega (arith, less, size, b.within)

    by_size : (h : Header) (n : ℕ) → self_header_read bytes ≡ sized h n
        → (length bytes < self_size h n) ⊎ (self_size h n ≤ length bytes) → BeginsWithSome bytes ⊎ BeginsWithNone bytes
    by_size h n read (inl less) = inr (short h n read less)
    by_size h n read (inr within) =
        inl record { value = _; shape = _; used = _; begins = begins_found bytes are h n read within }

    go : (r : SelfHeaderRead) → self_header_read bytes ≡ r → BeginsWithSome bytes ⊎ BeginsWithNone bytes
    go (sized h n) read = by_size h n read (cases_lt (length bytes) (self_size h n))
    go unsized read = inr (λ v s used b. let e = sym read ∙ (begins_only v s used bytes b).read in absurd cc)
    go (never rule place) read = inr (λ v s used b. let e = sym read ∙ (begins_only v s used bytes b).read in absurd cc)

-- it has some bytes
some_header : (h : Header) → 1 ≤ length (header_bytes h)
unfolding header_bytes
some_header h = omega arith

pub begins_some : (bytes : List ℕ) (b : BeginsWithSome bytes) → 1 ≤ b.used
begins_some bytes b =
    let r = begins_only b.value b.shape b.used bytes b.begins in
    omega (arith, r.used_is, some_header (header_for b.value b.shape))
