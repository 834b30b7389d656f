-- The bytes of an OpusHead, numbers with the lowest byte first (RFC 7845, 5.1).
use Rattle.std.specs.Prelude.{◌≡◌, ℕ, List, [], ◌∷◌, ◌++◌}
use Rattle.std.specs.Int.{w16, w32, to_le_bytes, cast_unsigned}
use Rattle.opus_head.specs.HeadValue.{HeadValue, IsHead}
use Rattle.opus_head.specs.declared.table.Table.{Table}
use Rattle.opus_head.specs.declared.table.Table.TheVariants.{None, Map, Matrix}

-- `OpusHead`
abbrev pub magic : List ℕ
magic = 79 ∷ 112 ∷ 117 ∷ 115 ∷ 72 ∷ 101 ∷ 97 ∷ 100 ∷ []

-- pre-skip, input sample rate and output gain
abbrev pub number_bytes : HeadValue → List ℕ
number_bytes h =
    to_le_bytes w16 h.pre_skip ++ to_le_bytes w32 h.rate ++ to_le_bytes w16 (cast_unsigned w16 h.gain)

-- streams, coupled streams, and the mapping bytes or the factors
abbrev pub table_bytes : Table → List ℕ
table_bytes None = []
table_bytes (Map streams coupled map) = streams ∷ coupled ∷ map
table_bytes (Matrix streams coupled entries) = streams ∷ coupled ∷ entries

-- the 19 bytes that each head has
abbrev pub front_bytes : HeadValue → List ℕ
front_bytes h = magic ++ h.version ∷ h.channels ∷ (number_bytes h ++ h.family ∷ [])

-- the one spelling of a head
abbrev pub head_bytes : HeadValue → List ℕ
head_bytes h = front_bytes h ++ table_bytes h.table ++ h.extra

-- the bytes are a head that says this
pub record IsOpusHead (h : HeadValue) (bytes : List ℕ) : Type 0 where
  pub value : IsHead h
  pub spelled : bytes ≡ head_bytes h
