-- What follows a header: one packet at most, by the last frame's length.
use Rattle.std.proofs.Common.{◌≡◌, ℕ, ◌+◌, ◌≤◌, ◌<◌, List, length, drop, sym, ap, ◌∙◌, subst, arith}
use Rattle.opus_flen.specs.FrameLength.{length_bytes, length_read}
use Rattle.opus_flen.specs.declared.frame_length.LenRead.{LenRead}
use Rattle.opus_packet.specs.declared.fault.Rule.{Rule}
use Rattle.opus_packet.specs.declared.shape.Shape.{Shape}
use Rattle.opus_packet.specs.Value.{PacketValue}
use Rattle.opus_packet.specs.Header.{Header, header_bytes}
use Rattle.opus_packet.specs.HeaderRead.{whole, header_read}
use Rattle.opus_packet.specs.PacketPrefix.{AreBytes}
use Rattle.opus_packet.specs.SelfGrammar.{BeginsWithSelf}
use Rattle.opus_packet.specs.SelfPrefix.{SelfHeaderRead, sized, unsized, never, after_header, with_last, self_header_read, self_size}
use Rattle.opus_self.specs.ValueBehind.{value_behind}
use Rattle.opus_self.proofs.SelfLemmas.{begins_only, IsSelfDelimited-unique}
use Rattle.opus_self.proofs.SelfPrefixLemmas.{begins_once, begins_found}

-- a header, and what is read as a length behind it
pub reads_last : (h : Header) (bs : List ℕ) (used : ℕ) (r : LenRead) → header_read bs ≡ whole h
    → used ≡ length (header_bytes h) → length_read (drop used bs) ≡ r → self_header_read bs ≡ with_last h r
reads_last h bs used r said used_is read =
    ap (after_header bs) said
    ∙ ap (λ k. with_last h (length_read (drop k bs))) (sym used_is) ∙ ap (with_last h) read

-- what begins with no header and last length begins with no packet
pub not_sized : (bs : List ℕ) (v : PacketValue) (s : Shape) (used : ℕ) (r : SelfHeaderRead)
    → self_header_read bs ≡ r → ((h : Header) (n : ℕ) → sized h n ≡ r → ⊥) → BeginsWithSelf v s used bs → ⊥
not_sized bs v s used r said none begins =
    let at = begins_only v s used bs begins in
    none _ _ (sym at.read ∙ said)

pub sized≢unsized : (h : Header) (n : ℕ) → sized h n ≡ unsized → ⊥
sized≢unsized h n e = cc

pub sized≢never : (rule : Rule) (place : ℕ) (h : Header) (n : ℕ) → sized h n ≡ never rule place → ⊥
sized≢never rule place h n e = cc

-- a packet that is longer than the bytes doesn't stand first in them
pub not_whole : (h : Header) (n : ℕ) (bs : List ℕ) (v : PacketValue) (s : Shape) (used : ℕ)
    → self_header_read bs ≡ sized h n → length bs < self_size h n → BeginsWithSelf v s used bs → ⊥
not_whole h n bs v s used read short begins =
    let at = begins_only v s used bs begins in
    let size = same_size (sym at.read ∙ read) in
    let used_is = at.used_is in
    let within = begins.within in
    omega arith
  where
    same_size : {g h : Header} {i j : ℕ} → sized g i ≡ sized h j → self_size g i ≡ self_size h j
    same_size e = cc

-- a packet that isn't longer stands first, with its frames behind header and last length
pub found_at : (h : Header) (n : ℕ) (bs : List ℕ) (front used : ℕ) → AreBytes bs
    → self_header_read bs ≡ sized h n → front ≡ length (header_bytes h) + length (length_bytes n)
    → used ≡ self_size h n → used ≤ length bs
    → BeginsWithSelf (value_behind h n (drop front bs)) h.shape used bs
found_at h n bs front used are read front_is used_is within =
    let size : self_size h n ≤ length bs = omega arith in
    subst (λ k. BeginsWithSelf (value_behind h n (drop k bs)) h.shape used bs) (sym front_is)
    (subst (λ k. BeginsWithSelf (value_behind h n (drop (length (header_bytes h) + length (length_bytes n)) bs)) h.shape k bs)
    (sym used_is) (begins_found bs are h n read size))

-- the packet that was found is the one that stands first
pub found_only : (bs : List ℕ) (v w : PacketValue) (s u : Shape) (m n : ℕ)
    → BeginsWithSelf v s m bs → BeginsWithSelf w u n bs → (v ≡ w) × (s ≡ u) × (m ≡ n)
found_only bs v w s u m n p q =
    let ends : m ≡ n = begins_once v w s u m n bs p q in
    let there = subst (λ k. BeginsWithSelf w u k bs) (sym ends) q in
    let same = IsSelfDelimited-unique v w s u p.spelled.0 there.spelled.0 _ p.spelled.1 there.spelled.1 in
    (same.0, same.1, ends)
