-- Streams of packets: more bytes, one packet more, and that there is one reading.
use Rattle.std.proofs.Common.{◌≡◌, ℕ, List, [], ◌∷◌, ◌++◌, length, take, drop, refl, sym, ap, subst, ◌∙◌, arith, append_assoc, length-append}
use Rattle.std.proofs.Math.Seq.{take-append_seam, drop-append_seam}
use Rattle.std.proofs.lemmas.List.{append-nil}
use Rattle.opus_packet.specs.declared.shape.Shape.{Shape}
use Rattle.opus_packet.specs.Value.{PacketValue}
use Rattle.opus_packet.specs.SelfGrammar.{IsSelfDelimited, SpellsSelf, BeginsWithSelf}
use Rattle.opus_self.specs.BecomesSelf.{BeginsWithNone}
use Rattle.example_recorder.specs.Stream.{IsStream}

-- more bytes lengthen the rest
pub stream-more : (vs : List PacketValue) (rest bytes piece : List ℕ) → IsStream vs rest bytes
    → IsStream vs (rest ++ piece) (bytes ++ piece)
stream-more [] rest bytes piece e = ap (λ l. l ++ piece) e
stream-more (v ∷ vs) rest bytes piece (s, own, more, spells, e, stream) =
    (s, own, more ++ piece, spells, ap (λ l. l ++ piece) e ∙ append_assoc own more piece, stream-more vs rest more piece stream)

-- a rest that is a packet is one packet more
pub stream-end : (vs : List PacketValue) (rest bytes : List ℕ) (v : PacketValue) (s : Shape) → IsStream vs rest bytes
    → SpellsSelf v s rest → IsStream (vs ++ v ∷ []) [] bytes
stream-end [] rest bytes v s e spells = (s, rest, [], spells, e ∙ sym (append-nil rest), refl)
stream-end (w ∷ vs) rest bytes v s (u, own, more, own_spells, e, stream) spells =
    (u, own, more, own_spells, e, stream-end vs rest more v s stream spells)

-- the first packet stands first
pub stream-begins : (v : PacketValue) (s : Shape) (own more bytes : List ℕ) → SpellsSelf v s own → bytes ≡ own ++ more
    → BeginsWithSelf v s (length own) bytes
stream-begins v s own more bytes spells e =
    let front : take (length own) bytes ≡ own = ap (take (length own)) e ∙ take-append_seam own more in
    record {
      within = omega (arith, ap (length {A = ℕ}) e, length-append own more);
      spelled = subst (SpellsSelf v s) (sym front) spells;
    }

-- packets that are one, of their spellings
abbrev OneReading : Type 0
OneReading = (v w : PacketValue) (s u : Shape) (tail rest bytes : List ℕ) → IsSelfDelimited v s tail bytes
    → IsSelfDelimited w u rest bytes → v ≡ w

-- a packet ends where another one does
abbrev OneEnd : Type 0
OneEnd = (v w : PacketValue) (s u : Shape) (m n : ℕ) (bytes : List ℕ) → BeginsWithSelf v s m bytes
    → BeginsWithSelf w u n bytes → m ≡ n

same-fronts : (own other more rest : List ℕ) → length own ≡ length other → own ++ more ≡ other ++ rest → own ≡ other
same-fronts own other more rest n e =
    sym (take-append_seam own more) ∙ ap (take (length own)) e ∙ ap (λ k. take k (other ++ rest)) n ∙ take-append_seam other rest

same-backs : (own other more rest : List ℕ) → length own ≡ length other → own ++ more ≡ other ++ rest → more ≡ rest
same-backs own other more rest n e =
    sym (drop-append_seam own more) ∙ ap (drop (length own)) e ∙ ap (λ k. drop k (other ++ rest)) n ∙ drop-append_seam other rest

-- no packet stands first in either rest: the packets are the same
pub stream-one : OneReading → OneEnd → (vs ws : List PacketValue) (rest others bytes : List ℕ) → IsStream vs rest bytes
    → IsStream ws others bytes → BeginsWithNone rest → BeginsWithNone others → vs ≡ ws
stream-one reading ends [] [] rest others bytes e d none none_other = refl
stream-one reading ends [] (w ∷ ws) rest others bytes e (u, own, more, spells, d, stream) none none_other =
    absurd (none w u (length own) (subst (BeginsWithSelf w u (length own)) e (stream-begins w u own more bytes spells d)))
stream-one reading ends (v ∷ vs) [] rest others bytes (s, own, more, spells, e, stream) d none none_other =
    absurd (none_other v s (length own) (subst (BeginsWithSelf v s (length own)) d (stream-begins v s own more bytes spells e)))
stream-one reading ends (v ∷ vs) (w ∷ ws) rest others bytes (s, own, more, spells, e, stream) (u, other, behind, told, d, streams) none none_other =
    let n : length own ≡ length other =
    ends v w s u _ _ bytes (stream-begins v s own more bytes spells e) (stream-begins w u other behind bytes told d) in
    let front : own ≡ other = same-fronts own other more behind n (sym e ∙ d) in
    let back : more ≡ behind = same-backs own other more behind n (sym e ∙ d) in
    let same : v ≡ w = reading v w s u spells.0 told.0 other (subst (IsSelfDelimited v s spells.0) front spells.1) told.1 in
    let all : vs ≡ ws = stream-one reading ends vs ws rest others behind (subst (IsStream vs rest) back stream) streams none none_other in
    ap (λ x. x ∷ vs) same ∙ ap (λ xs. w ∷ xs) all
