-- What is kept of padding bytes.
use Rattle.std.proofs.Common.{◌≡◌, Bool, true, false, nat_le, if◌then◌else◌, List, ℕ, [], ◌∷◌, length, refl, ap}
use Rattle.opus_packet.specs.PacketPrefix.{AreBytes}
use Rattle.opus_packet.specs.Tail.{kept, counted, kept_bytes, max_tail}
use Rattle.opus_feed.specs.declared.padding.Padding.{Padding}
use Rattle.opus_feed.specs.declared.padding.Padding.TheVariants.{Drop, Keep}
use Rattle.opus_feed.specs.Tails.{tail_kept}

abbrev pub kept_of : Padding → List ℕ → List ℕ
kept_of padding tail = kept_bytes (tail_kept padding tail)

again_by : (b : Bool) (tail : List ℕ) → nat_le (length tail) max_tail ≡ b
    → kept_of Keep (kept_bytes (if b then kept tail else counted (length tail)))
    ≡ kept_bytes (if b then kept tail else counted (length tail))
again_by true tail e = ap (λ b. kept_bytes (if b then kept tail else counted (length tail))) e
again_by false tail e = refl

pub kept_again : (padding : Padding) (tail : List ℕ) → kept_of padding (kept_of padding tail) ≡ kept_of padding tail
kept_again Drop [] = refl
kept_again Drop (x ∷ xs) = refl
kept_again Keep tail = again_by (nat_le (length tail) max_tail) tail refl

are_by : (b : Bool) (tail : List ℕ) → AreBytes tail
    → AreBytes (kept_bytes (if b then kept tail else counted (length tail)))
are_by true tail are = are
are_by false tail are = tt

pub kept_are : (padding : Padding) (tail : List ℕ) → AreBytes tail → AreBytes (kept_of padding tail)
kept_are Drop [] are = tt
kept_are Drop (x ∷ xs) are = tt
kept_are Keep tail are = are_by (nat_le (length tail) max_tail) tail are
