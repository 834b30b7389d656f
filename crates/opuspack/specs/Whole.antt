-- An input that is one record as a whole: its first bytes, and how many it has.
use Rattle.std.specs.Prelude.{◌≡◌, ℕ, List, [], ◌∷◌, length, take, Option, None}
use Rattle.job_loop.specs.Shown.{Shown}
use Rattle.opus_head.specs.HeadValue.{AreBytes}
use Rattle.opuspack.specs.declared.never.Never.{Never}
use Rattle.opuspack.specs.declared.whole.WholeInput.{WholeInput}

-- How many bytes are kept: those of the largest OpusHead with a table, and one more. It has 227 channels in family 3, and
-- 255 decoded channels: 21 bytes, and two for each factor.
unfoldable pub kept_most : ℕ
kept_most = 115792

abbrev pub whole_record : List ℕ → Shown WholeInput
whole_record x = record { item = record { size = length x }; bytes = take kept_most x }

-- how many bytes were there when the record was decided: all of the input
abbrev pub place_of : Shown WholeInput → ℕ
place_of r = r.item.size

-- no bytes decide the record
pub record WholeSettles (h : List ℕ) (rs : List (Shown WholeInput)) : Type 0 where
  pub are_bytes : AreBytes h
  pub records_are : rs ≡ []

-- the end does, and the input is never cut
pub record WholeEnds (h : List ℕ) (rs : List (Shown WholeInput)) (cut : Option Never) : Type 0 where
  pub are_bytes : AreBytes h
  pub records_are : rs ≡ whole_record h ∷ []
  pub cut_is : cut ≡ None

-- a machine was fed these bytes, and keeps the first ones
pub record WholeStands (kept h : List ℕ) (rs : List (Shown WholeInput)) : Type 0 where
  pub settles : WholeSettles h rs
  pub kept_are : kept ≡ take kept_most h
