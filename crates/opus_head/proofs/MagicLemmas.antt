-- How far bytes begin as `OpusHead` does.
use Rattle.std.proofs.Common.{◌≡◌, ℕ, ◌+◌, ◌≤◌, ◌<◌, ◌==◌, true, List, length, get_or, drop, arith}
use Rattle.std.specs.List.{common_prefix_len}
use Rattle.std.proofs.lemmas.List.Sums.{common_prefix_len-drop_yes}
use Rattle.opus_head.specs.HeadBytes.{magic}
use Rattle.opus_head.specs.HeadFault.{magic_len}

-- the first bytes are those of `OpusHead`, so many
pub record SameSoFar (bytes : List ℕ) (place : ℕ) : Type 0 where
  pub within : place ≤ length bytes
  pub magic_is : magic_len bytes
      ≡ place + common_prefix_len (λ wanted found. wanted == found) (drop place magic) (drop place bytes)

pub SameSoFar-more : (bytes : List ℕ) (place : ℕ) → SameSoFar bytes place → place < 8 → place < length bytes
    → (get_or magic place 0 == get_or bytes place 0) ≡ true → SameSoFar bytes (place + 1)
SameSoFar-more bytes place so_far early within same = record {
  within = omega arith;
  magic_is = let next = common_prefix_len-drop_yes (λ wanted found. wanted == found) magic bytes place 0 0 early within same in
      omega (arith, so_far.magic_is);
}
