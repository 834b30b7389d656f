-- Padding lengths of code 3 packets (RFC 6716, 3.2.5).
use Rattle.std.specs.Prelude.{◌≡◌, ℕ, ◌+◌, ◌-◌, ◌*◌, ◌/◌, ◌%◌, ◌^◌, ◌<◌, ◌≤◌, nat_lt, ◌==◌, if◌then◌else◌, List, [], ◌∷◌, ◌++◌, length, take, replicate, slice_index}
use Rattle.opus_flen.specs.declared.padding_length.PadRead.{PadRead}
use Rattle.opus_flen.specs.declared.padding_length.PadRead.TheVariants.{Pad, Cut, Limit}

-- padding totals are below it: this project's limit
abbrev pub padding_limit : ℕ
padding_limit = 2 ^ 24

-- The bytes spell the padding total: full bytes 255, each for 254 padding bytes and the byte itself, and a
-- last byte below 255 for that many padding bytes and itself.
pub record SpellsPaddingBy (total : ℕ) (bytes : List ℕ) (full last : ℕ) : Type 0 where
  pub fits : total < padding_limit
  pub below : last ≤ 254
  pub total_is : total ≡ 255 * full + last + 1
  pub bytes_are : bytes ≡ replicate full 255 ++ last ∷ []

abbrev pub SpellsPadding : ℕ → List ℕ → Type 0
SpellsPadding total bytes = (full : ℕ) × (last : ℕ) × SpellsPaddingBy total bytes full last

-- the one spelling of a total, which is at least 1
abbrev pub padding_bytes : ℕ → List ℕ
padding_bytes total = replicate ((total - 1) / 255) 255 ++ (total - 1) % 255 ∷ []

-- how many bytes 255 stand first
abbrev pub full_bytes : List ℕ → ℕ
full_bytes [] = 0
full_bytes (byte ∷ bytes) = if byte == 255 then full_bytes bytes + 1 else 0

-- most bytes 255 that a padding length within the limit has
unfoldable pub most_full : ℕ
most_full = 65792

-- A padding length that the bytes begin with; or they are all 255 and go on within the limit; or so many
-- bytes 255 stand first that no length within the limit can follow.
abbrev pub ReadsPadding : List ℕ → PadRead → Type 0
ReadsPadding bytes (Pad total used) = SpellsPadding total (take used bytes) × (used ≤ length bytes)
ReadsPadding bytes Cut = (full_bytes bytes ≡ length bytes) × (length bytes ≤ most_full)
ReadsPadding bytes (Limit place) = (most_full < full_bytes bytes) × (place ≡ most_full)

-- what the front of the bytes says
abbrev pub padding_read : List ℕ → PadRead
padding_read bytes =
    if nat_lt most_full (full_bytes bytes) then Limit most_full
    else if nat_lt (full_bytes bytes) (length bytes)
    then Pad (255 * full_bytes bytes + slice_index bytes (full_bytes bytes) + 1) (full_bytes bytes + 1)
    else Cut
