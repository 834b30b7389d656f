-- The factors of family 3 (RFC 8486, 3.2).
use Rattle.std.specs.Prelude.{ℕ, ◌+◌, ◌*◌, ℤ, List, [], slice_index}
use Rattle.std.specs.Int.{w16, cast_signed}
use Rattle.opus_head.specs.HeadValue.{HeadValue}
use Rattle.opus_head.specs.declared.table.Table.{Table}
use Rattle.opus_head.specs.declared.table.Table.TheVariants.{None, Map, Matrix}

-- how many there are: one for each decoded channel and each channel, and none without a matrix
abbrev pub table_factors : Table → ℕ → ℕ
table_factors None channels = 0
table_factors (Map streams coupled map) channels = 0
table_factors (Matrix streams coupled entries) channels = (streams + coupled) * channels

abbrev pub factors_of : HeadValue → ℕ
factors_of h = table_factors h.table h.channels

abbrev pub table_entries : Table → List ℕ
table_entries None = []
table_entries (Map streams coupled map) = []
table_entries (Matrix streams coupled entries) = entries

-- a factor: two bytes, the lowest first, read as a signed number
abbrev pub factor_at : List ℕ → ℕ → ℤ
factor_at entries i =
    cast_signed w16 (slice_index entries (2 * i) + 256 * slice_index entries (2 * i + 1))
