-- What a part of the header does with the bytes of a piece that come next.
use Rattle.std.specs.Prelude.{◌≡◌, ◌≤◌, List, ℕ, ◌++◌, length, take}
use Rattle.opus_feed.specs.Heads.{IsSound, spelling}
use Rattle.opus_feed.specs.declared.framing.Framing.{Framing}
use Rattle.opus_feed.specs.declared.head.Head.{Head}
use Rattle.opus_feed.specs.declared.take.Taken.{Taken}

-- so much of the piece was taken, and what stands is sound
pub record IsTaking (framing : Framing) (piece : List ℕ) (h : Head) (taken : Taken) : Type 0 where
  pub within : taken.used ≤ length piece
  pub sound : IsSound framing taken.stage h

-- more of it was taken: what came before the piece, and then what was taken of it, is spelled as before
pub record TakesOn (framing : Framing) (piece : List ℕ) (old : Head) (before : Taken) (new : Head) (after : Taken)
    : Type 0 where
  pub taking : IsTaking framing piece new after
  pub spelled : (first : List ℕ) → spelling framing before.stage old ≡ first ++ take before.used piece
      → spelling framing after.stage new ≡ first ++ take after.used piece
