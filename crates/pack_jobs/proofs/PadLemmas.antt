-- The size of a padded form.
use Rattle.std.proofs.Common.{◌≡◌, ℕ, zero, suc, ◌≤◌, ◌<◌, List, [], ◌++◌, length, ap, ◌∙◌, arith}
use Rattle.opus_packet.specs.Value.{PacketValue}
use Rattle.opus_packet.specs.Canonical.{canonical}
use Rattle.opus_writer.specs.Padded.{padded_to}
use Rattle.opus_writer.proofs.PaddedLemmas.{padded_to-size}

not_below : (a b : ℕ) → (a < b → ⊥) → b ≤ a
not_below a zero above = omega arith
not_below zero (suc b) above = absurd (above (omega arith))
not_below (suc a) (suc b) above = let next = not_below a b (λ is. above (omega (arith, is))) in omega (arith, next)

-- what was appended to nothing has the size
pub padded-small : (v : PacketValue) (size : ℕ) (before after : List ℕ) → before ≡ [] → after ≡ before ++ padded_to v size
    → (size < length (canonical v) → ⊥) → length after ≡ size
padded-small v size before after none is fits =
    ap (λ l. length l) is ∙ ap (λ l. length (l ++ padded_to v size)) none
    ∙ padded_to-size v size (not_below size (length (canonical v)) fits)
