-- The 32 configurations (RFC 6716, 3.1, Table 2).
use Rattle.std.specs.Prelude.{ℕ, List, [], ◌∷◌}
use Rattle.std.specs.List.{slice_index_or}
use Rattle.opus_toc.specs.declared.toc.Mode.{Mode}
use Rattle.opus_toc.specs.declared.toc.Mode.TheVariants.{Silk, Hybrid, Celt}
use Rattle.opus_toc.specs.declared.toc.Band.{Band}
use Rattle.opus_toc.specs.declared.toc.Band.TheVariants.{Narrow, Medium, Wide, SuperWide, Full}

-- what a configuration says: mode, bandwidth, and the samples at 48 kHz of a frame
pub record Row : Type 0 where
  pub mode : Mode
  pub band : Band
  pub samples : ℕ

abbrev pub row : Mode → Band → ℕ → Row
row mode band samples = record { mode = mode; band = band; samples = samples }

-- the table, configuration 0 first
abbrev pub table : List Row
table =
    row Silk Narrow 480 ∷ row Silk Narrow 960 ∷ row Silk Narrow 1920 ∷ row Silk Narrow 2880
    ∷ row Silk Medium 480 ∷ row Silk Medium 960 ∷ row Silk Medium 1920 ∷ row Silk Medium 2880
    ∷ row Silk Wide 480 ∷ row Silk Wide 960 ∷ row Silk Wide 1920 ∷ row Silk Wide 2880
    ∷ row Hybrid SuperWide 480 ∷ row Hybrid SuperWide 960
    ∷ row Hybrid Full 480 ∷ row Hybrid Full 960
    ∷ row Celt Narrow 120 ∷ row Celt Narrow 240 ∷ row Celt Narrow 480 ∷ row Celt Narrow 960
    ∷ row Celt Wide 120 ∷ row Celt Wide 240 ∷ row Celt Wide 480 ∷ row Celt Wide 960
    ∷ row Celt SuperWide 120 ∷ row Celt SuperWide 240 ∷ row Celt SuperWide 480 ∷ row Celt SuperWide 960
    ∷ row Celt Full 120 ∷ row Celt Full 240 ∷ row Celt Full 480 ∷ row Celt Full 960 ∷ []

-- the row of a configuration, which is below 32
unfoldable pub row_of : ℕ → Row
row_of config = slice_index_or table config (row Silk Narrow 480)

-- samples at 48 kHz of one frame
unfoldable pub samples_of : ℕ → ℕ
samples_of config = (row_of config).samples

unfoldable pub mode_of : ℕ → Mode
mode_of config = (row_of config).mode

unfoldable pub bandwidth_of : ℕ → Band
bandwidth_of config = (row_of config).band
