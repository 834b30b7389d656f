-- The known parameters of an `a=fmtp:` line (RFC 7587, 6.1), in the order in which they are printed. The ranges are
-- this project's.
use Rattle.std.specs.Prelude.{ℕ, Bool, true, List, [], ◌∷◌, map, codes, is_some, slice_get}
use Rattle.std.specs.List.{list_any, position_or_len, slice_index_or}
use Rattle.std.specs.Option.{option_map_or}
use Rattle.std.specs.Char.{to_ascii_lowercase}
use Rattle.std.specs.Str.{bytes_eq}
use Rattle.text_numbers.specs.Number.{number_within}
use Rattle.opus_sdp.specs.declared.param.Param.{Param}

-- a known name in small letters, and the numbers that it allows
pub record Row : Type 0 where
  pub name : List ℕ
  pub least : ℕ
  pub most : ℕ

abbrev pub row : List ℕ → ℕ → ℕ → Row
row name least most = record { name = name; least = least; most = most }

unfoldable pub table : List Row
table = row (codes "maxplaybackrate") 8000 48000
    ∷ row (codes "sprop-maxcapturerate") 8000 48000
    ∷ row (codes "maxaveragebitrate") 6000 510000
    ∷ row (codes "stereo") 0 1
    ∷ row (codes "sprop-stereo") 0 1
    ∷ row (codes "cbr") 0 1
    ∷ row (codes "useinbandfec") 0 1
    ∷ row (codes "usedtx") 0 1
    ∷ []

-- the name in small letters
abbrev pub lowered : List ℕ → List ℕ
lowered name = map to_ascii_lowercase name

-- letters in any case
abbrev pub same_name : List ℕ → List ℕ → Bool
same_name a b = bytes_eq (lowered a) (lowered b)

-- the row of a name, and 8 for a name that isn't known
abbrev pub row_of : List ℕ → ℕ
row_of name = position_or_len (λ r. same_name r.name name) table

-- a name that isn't known allows every value
abbrev pub is_allowed : List ℕ → List ℕ → Bool
is_allowed name value =
    option_map_or (λ r. is_some (number_within r.least r.most value)) (slice_get table (row_of name)) true

-- whether one of the parameters has this name
abbrev pub is_named : List ℕ → List Param → Bool
is_named name params = list_any (λ p. same_name p.name name) params

abbrev pub row_at : ℕ → Row
row_at i = slice_index_or table i (row [] 0 0)
