-- The first line of a capture in the rtpdump layout, and where other bytes go wrong.
use Rattle.std.specs.Prelude.{◌≡◌, ◌≢◌, ◌⊎◌, ℕ, ◌+◌, ◌≤◌, ◌<◌, List, [], ◌∷◌, ◌++◌, length}
use Rattle.std.specs.List.{AllByRecursion}
use Rattle.rec_store.specs.Dump.{dump_mark}
use Rattle.rec_store.specs.declared.dump_line.LineStep.{LineStep}
use Rattle.rec_store.specs.declared.dump_line.LineStep.TheVariants.{More, Whole, Bad}

-- text without a newline
abbrev pub IsOneLine : List ℕ → Type 0
IsOneLine text = AllByRecursion (λ byte. byte ≢ 10) text

-- A first line: the mark, what tells address and port, and a newline, at most 256 bytes in all. What stands between mark
-- and newline may be anything.
pub record IsDumpLine (line : List ℕ) : Type 0 where
  pub text : List ℕ
  pub one_line : IsOneLine text
  pub spelled : line ≡ dump_mark ++ (text ++ 10 ∷ [])
  pub fits : length line ≤ 256

-- ---- where bytes go wrong

-- the byte at this place isn't the mark's
pub record IsOtherMark (bytes : List ℕ) (place : ℕ) : Type 0 where
  pub same : List ℕ
  pub wanted : ℕ
  pub others : List ℕ
  pub found : ℕ
  pub more : List ℕ
  pub mark_is : dump_mark ≡ same ++ wanted ∷ others
  pub bytes_are : bytes ≡ same ++ found ∷ more
  pub differs : found ≢ wanted
  pub place_is : place ≡ length same

-- the mark stands there, and no newline among the first 256 bytes: the last of these goes wrong
pub record IsLongLine (bytes : List ℕ) (place : ℕ) : Type 0 where
  pub text : List ℕ
  pub more : List ℕ
  pub one_line : IsOneLine text
  pub full : length (dump_mark ++ text) ≡ 256
  pub bytes_are : bytes ≡ (dump_mark ++ text) ++ more
  pub place_is : place ≡ 255

-- the bytes begin with another line, from this place on
abbrev pub IsBadLine : List ℕ → ℕ → Type 0
IsBadLine bytes place = IsOtherMark bytes place ⊎ IsLongLine bytes place

-- the last of the bytes is where they go wrong
abbrev pub GoesWrong : List ℕ → Type 0
GoesWrong bytes = (place : ℕ) × IsBadLine bytes place × (place + 1 ≡ length bytes)

-- ---- bytes that may still become a line

-- a front of the mark, and not all of it
pub record IsMarkPart (bytes : List ℕ) : Type 0 where
  pub others : List ℕ
  pub some : 1 ≤ length others
  pub mark_is : dump_mark ≡ bytes ++ others

-- the mark, and what may stand before a newline
pub record IsTextPart (bytes : List ℕ) : Type 0 where
  pub text : List ℕ
  pub one_line : IsOneLine text
  pub bytes_are : bytes ≡ dump_mark ++ text
  pub fits : length bytes < 256

-- a front of a line, and not all of it
abbrev pub IsLinePart : List ℕ → Type 0
IsLinePart bytes = IsMarkPart bytes ⊎ IsTextPart bytes

-- ---- a line that is read in pieces

-- so many bytes of the piece were taken
abbrev pub line_taken : LineStep → ℕ
line_taken (More count) = count
line_taken (Whole count) = count
line_taken (Bad count) = count

-- what stands there then: a front of a line, a whole one, or bytes of which the last goes wrong
abbrev pub LineIs : LineStep → List ℕ → Type 0
LineIs (More count) bytes = IsLinePart bytes
LineIs (Whole count) bytes = IsDumpLine bytes
LineIs (Bad count) bytes = GoesWrong bytes

-- a front of a line still has room for a newline
abbrev pub LineRoom : LineStep → ℕ → Type 0
LineRoom (More count) seen = seen + count < 256
LineRoom (Whole count) seen = Unit {0}
LineRoom (Bad count) seen = Unit {0}
