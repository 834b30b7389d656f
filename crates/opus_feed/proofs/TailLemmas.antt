-- Padding bytes that are kept.
use Rattle.std.proofs.Common.{◌≡◌, ℕ, ◌<◌, Bool, true, false, ◌==◌, nat_le, if◌then◌else◌, List, [], ◌∷◌, length, take, refl, sym, ap, ◌∙◌, arith, eq-eqb, eqb-true, ne_eqb, leb-false}
use Rattle.opus_packet.specs.Tail.{TailRead, kept, counted}
use Rattle.opus_feed.specs.Bodies.{kept_tail}
use Rattle.opus_feed.specs.Tails.{tail_kept, tail_by}
use Rattle.opus_feed.specs.declared.padding.Padding.{Padding}
use Rattle.opus_feed.specs.declared.padding.Padding.TheVariants.{Drop, Keep}

-- a tail, by whether all of it is kept
abbrev tail_if : Bool → List ℕ → TailRead
tail_if all q = if all then kept q else counted (length q)

kept_if : (q : List ℕ) (b : Bool) → nat_le (length q) 65535 ≡ b
    → tail_if ((if b then length q else 0) == length q) q ≡ (if b then kept q else counted (length q))
kept_if q true few = ap (λ b. tail_if b q) (eq-eqb (length q) (length q) refl)
kept_if q false few =
    let many : 65535 < length q = leb-false (length q) 65535 few in
    ap (λ b. tail_if b q) (ne_eqb 0 (length q) (λ e. omega arith))

tail_kept-is : (padding : Padding) (q : List ℕ)
    → tail_if (kept_tail padding (length q) == length q) q ≡ tail_kept padding q
tail_kept-is Drop [] = refl
tail_kept-is Drop (x ∷ xs) = ap (λ b. tail_if b (x ∷ xs)) (ne_eqb 0 (length (x ∷ xs)) (λ e. omega arith))
tail_kept-is Keep q = kept_if q (nat_le (length q) 65535) refl

by_test : (all : Bool) (count : ℕ) (bytes q : List ℕ) → length q ≡ count → (all ≡ true → take count bytes ≡ q)
    → (if all then kept (take count bytes) else counted count) ≡ tail_if all q
by_test true count bytes q size are = ap kept (are refl)
by_test false count bytes q size are = ap counted (sym size)

-- the tail of a packet whose padding bytes are q
pub tail_by-is : (padding : Padding) (count : ℕ) (bytes q : List ℕ) → length q ≡ count
    → (kept_tail padding count ≡ count → take count bytes ≡ q) → tail_by padding count bytes ≡ tail_kept padding q
tail_by-is padding count bytes q size are =
    by_test (kept_tail padding count == count) count bytes q size (λ e. are (eqb-true (kept_tail padding count) count e))
    ∙ ap (λ n. tail_if (kept_tail padding n == n) q) (sym size)
    ∙ tail_kept-is padding q
