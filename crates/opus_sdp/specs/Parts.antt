-- The parameters of a line as they stand in it, each with its place.
use Rattle.std.specs.Prelude.{ℕ, ◌+◌, nat_lt, List, [], ◌∷◌, length, map, filter}
use Rattle.std.specs.List.{prefix_len, position_or_len, before_first, after_first, slice_split}
use Rattle.opus_sdp.specs.Text.{is_blank, is_semicolon, is_equals, trim, trim_end}
use Rattle.opus_sdp.specs.declared.param.Param.{Param}

-- a text, and the index of its first byte
pub record Part : Type 0 where
  pub at : ℕ
  pub text : List ℕ

abbrev pub part_at : ℕ → List ℕ → Part
part_at at text = record { at = at; text = text }

-- without the blanks around it
abbrev pub trimmed : Part → Part
trimmed p = part_at (p.at + prefix_len is_blank p.text) (trim p.text)

-- texts with one byte between each two, the first of them at this place
abbrev pub placed : ℕ → List (List ℕ) → List Part
placed at [] = []
placed at (text ∷ texts) = part_at at text ∷ placed (at + length text + 1) texts

-- the parameters in a text that stands at this place: what is left of the pieces between `;` without the blanks around
-- them, if anything
abbrev pub parts_of : ℕ → List ℕ → List Part
parts_of at text =
    filter (λ p. nat_lt 0 (length p.text)) (map trimmed (placed at (slice_split is_semicolon text)))

-- what stands before the first `=`, and behind it
abbrev pub name_of : List ℕ → List ℕ
name_of text = trim_end (before_first is_equals text)

abbrev pub value_at : Part → Part
value_at p = trimmed (part_at (p.at + position_or_len is_equals p.text + 1) (after_first is_equals p.text))

abbrev pub param_of : Part → Param
param_of p = record { name = name_of p.text; value = (value_at p).text }
