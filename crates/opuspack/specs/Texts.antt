-- Texts by their index.
use Rattle.std.specs.Prelude.{ℕ, List, map}
use Rattle.std.specs.List.{concat, range_with_len}

-- those at the indices below `count`, one after another
abbrev pub all_texts : (ℕ → List ℕ) → ℕ → List ℕ
all_texts text count = concat (map text (range_with_len 0 count))
