-- Frame lengths (RFC 6716, 3.2.1).
use Rattle.std.specs.Prelude.{◌≡◌, ℕ, ◌+◌, ◌-◌, ◌*◌, ◌/◌, ◌%◌, ◌≤◌, nat_lt, if◌then◌else◌, List, [], ◌∷◌, length, take}
use Rattle.opus_flen.specs.declared.frame_length.LenRead.{LenRead}
use Rattle.opus_flen.specs.declared.frame_length.LenRead.TheVariants.{Len, Cut}

-- the one spelling of a frame length, which is at most 1,275
abbrev pub length_bytes : ℕ → List ℕ
length_bytes n =
    if nat_lt n 252 then n ∷ [] else (252 + n % 4) ∷ ((n - (252 + n % 4)) / 4) ∷ []

-- the first used bytes spell the frame length n
pub record BeginsWithLength (bytes : List ℕ) (n used : ℕ) : Type 0 where
  pub fits : n ≤ 1275
  pub counted : used ≡ length (length_bytes n)
  pub spelled : take used bytes ≡ length_bytes n

-- a length that the bytes begin with, or a cut where they begin with none
abbrev pub ReadsLength : List ℕ → LenRead → Type 0
ReadsLength bytes (Len n used) = BeginsWithLength bytes n used
ReadsLength bytes Cut = (n used : ℕ) → ¬ BeginsWithLength bytes n used

-- what the front of the bytes says
abbrev pub length_read : List ℕ → LenRead
length_read [] = Cut
length_read (first ∷ []) = if nat_lt first 252 then Len first 1 else Cut
length_read (first ∷ second ∷ bytes) =
    if nat_lt first 252 then Len first 1 else Len (4 * second + first) 2
