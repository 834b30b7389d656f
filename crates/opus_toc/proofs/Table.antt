-- The 32 rows of the table of configurations, computed once, and what follows for each of them.
use Rattle.std.proofs.Common.{◌≡◌, ℕ, ◌%◌, ◌<◌, ◌≤◌, true, ◌&&◌, [], ◌∷◌, map, get_or, nat_lt, nat_le, if◌then◌else◌, refl, sym, ap, ◌∙◌, leb-true, lt-ltb, le-ltb, arith}
use Rattle.std.specs.List.{range_with_len}
use Rattle.std.proofs.lemmas.Bool.{and_parts, cond-true, cond-false}
use Rattle.std.proofs.lemmas.List.FromFn.{get_or-map-range_with_len}
use Rattle.std.proofs.lemmas.List.Sums.{AllPass-from_list_all}
use Rattle.opus_toc.specs.Configuration.{Row, row, table, row_of, samples_of, mode_of, bandwidth_of}
use Rattle.opus_toc.specs.declared.toc.Mode.{Mode}
use Rattle.opus_toc.specs.declared.toc.Mode.TheVariants.{Silk, Hybrid, Celt}
use Rattle.opus_toc.specs.declared.toc.Band.{Band}
use Rattle.opus_toc.specs.declared.toc.Band.TheVariants.{Narrow, Medium, Wide, SuperWide, Full}

-- the table by ranges of configurations

abbrev pub mode_by_range : ℕ → Mode
mode_by_range config =
    if nat_lt config 12 then Silk else if nat_lt config 16 then Hybrid else Celt

-- below 16, and from there on
abbrev pub low_band : ℕ → Band
low_band config =
    if nat_lt config 4 then Narrow else if nat_lt config 8 then Medium
    else if nat_lt config 12 then Wide else if nat_lt config 14 then SuperWide else Full

abbrev pub high_band : ℕ → Band
high_band config =
    if nat_lt config 20 then Narrow else if nat_lt config 24 then Wide
    else if nat_lt config 28 then SuperWide else Full

abbrev band_by_range : ℕ → Band
band_by_range config = if nat_lt config 16 then low_band config else high_band config

-- the samples of a frame, by its mode
abbrev pub samples_in : Mode → ℕ → ℕ
samples_in Silk config = get_or (480 ∷ 960 ∷ 1920 ∷ 2880 ∷ []) (config % 4) 0
samples_in Hybrid config = get_or (480 ∷ 960 ∷ []) (config % 2) 0
samples_in Celt config = get_or (120 ∷ 240 ∷ 480 ∷ 960 ∷ []) (config % 4) 0

abbrev row_by_range : ℕ → Row
row_by_range config =
    row (mode_by_range config) (band_by_range config) (samples_in (mode_by_range config) config)

table-by_range : map row_by_range (range_with_len 0 32) ≡ table
table-by_range = refl

row_of-by_range : (config : ℕ) → config < 32 → row_of config ≡ row_by_range config
unfolding row_of
row_of-by_range config known =
    let blank = row Silk Narrow 480 in
    ap (λ rows. get_or rows config blank) (sym table-by_range)
    ∙ get_or-map-range_with_len row_by_range 0 32 config config blank known (omega arith)

pub mode_of-by_range : (config : ℕ) → config < 32 → mode_of config ≡ mode_by_range config
unfolding mode_of
mode_of-by_range config known = ap (λ r. r.mode) (row_of-by_range config known)

bandwidth_of-by_range : (config : ℕ) → config < 32 → bandwidth_of config ≡ band_by_range config
unfolding bandwidth_of
bandwidth_of-by_range config known = ap (λ r. r.band) (row_of-by_range config known)

pub bandwidth_of-low : (config : ℕ) → config < 16 → bandwidth_of config ≡ low_band config
bandwidth_of-low config low =
    bandwidth_of-by_range config (omega arith)
    ∙ cond-true (nat_lt config 16) (low_band config) (high_band config) (lt-ltb config 16 low)

pub bandwidth_of-high : (config : ℕ) → 16 ≤ config → config < 32
    → bandwidth_of config ≡ high_band config
bandwidth_of-high config high known =
    bandwidth_of-by_range config known
    ∙ cond-false (nat_lt config 16) (low_band config) (high_band config) (le-ltb config 16 high)

pub samples_of-in_mode : (config : ℕ) → config < 32
    → samples_of config ≡ samples_in (mode_of config) config
unfolding samples_of
samples_of-in_mode config known =
    ap (λ r. r.samples) (row_of-by_range config known)
    ∙ ap (λ mode. samples_in mode config) (sym (mode_of-by_range config known))

-- bounds on the samples of a frame

all_within : (config : ℕ) → config < 32
    → (nat_le 120 (samples_of config) && nat_le (samples_of config) 2880) ≡ true
unfolding samples_of row_of
all_within config known =
    AllPass-from_list_all (λ r. nat_le 120 r.samples && nat_le r.samples 2880) table refl
    config (row Silk Narrow 480) known

pub samples-least : (config : ℕ) → config < 32 → 120 ≤ samples_of config
samples-least config known =
    leb-true 120 (samples_of config) (and_parts _ _ (all_within config known)).0

pub samples-most : (config : ℕ) → config < 32 → samples_of config ≤ 2880
samples-most config known =
    leb-true (samples_of config) 2880 (and_parts _ _ (all_within config known)).1

-- the mode and the bandwidth of each range
pub ruleset ranges = (mode_of-by_range, bandwidth_of-low, bandwidth_of-high)

-- a frame has 120 to 2,880 samples
pub ruleset bounds = (samples-least, samples-most)
