-- What an OpusHead says, and what it may say (RFC 7845, 5.1; RFC 8486).
pub use Rattle.opus_io.specs.Bytes.{AreBytes}
use Rattle.std.specs.Prelude.{◌≡◌, ◌≢◌, ◌≤◌, ◌<◌, ℕ, ◌+◌, ◌*◌, ◌^◌, ℤ, Bool, true, ◌==◌, ◌||◌, nat_lt, List, [], length, FitsSigned}
use Rattle.std.specs.List.{list_all}
use Rattle.std.specs.Int.{w16}
use Rattle.opus_head.specs.ChannelCount.{is_channel_count}
use Rattle.opus_head.specs.declared.table.Table.{Table}
use Rattle.opus_head.specs.declared.table.Table.TheVariants.{None, Map, Matrix}

-- a head: the gain in 1/256 dB, and what follows the table in other versions than 1
pub record HeadValue : Type 0 where
  pub version : ℕ
  pub channels : ℕ
  pub pre_skip : ℕ
  pub rate : ℕ
  pub gain : ℤ
  pub family : ℕ
  pub table : Table
  pub extra : List ℕ

-- streams, and how many of them are coupled: each coupled one is decoded to two channels
pub record IsStreamCount (streams coupled : ℕ) : Type 0 where
  pub some : 1 ≤ streams
  pub within : coupled ≤ streams
  pub most : streams + coupled ≤ 255

-- a decoded channel, or silence
abbrev pub is_map_byte : ℕ → ℕ → Bool
is_map_byte decoded byte = nat_lt byte decoded || (byte == 255)

pub record IsMap (family channels streams coupled : ℕ) (map : List ℕ) : Type 0 where
  pub has_table : family ≢ 0
  pub no_matrix : family ≢ 3
  pub counted : IsStreamCount streams coupled
  pub size : length map ≡ channels
  pub known : list_all (is_map_byte (streams + coupled)) map ≡ true

pub record IsMatrix (family channels streams coupled : ℕ) (entries : List ℕ) : Type 0 where
  pub is_matrix : family ≡ 3
  pub counted : IsStreamCount streams coupled
  pub size : length entries ≡ 2 * ((streams + coupled) * channels)
  pub bytes : AreBytes entries

-- a table that a family has, for so many channels
abbrev pub IsTable : ℕ → ℕ → Table → Type 0
IsTable family channels None = family ≡ 0
IsTable family channels (Map streams coupled map) = IsMap family channels streams coupled map
IsTable family channels (Matrix streams coupled entries) =
    IsMatrix family channels streams coupled entries

-- a value that a head may have
pub record IsHead (h : HeadValue) : Type 0 where
  pub version : h.version ≤ 15
  pub some : 1 ≤ h.channels
  pub fit : h.channels < 256
  pub count : is_channel_count h.family h.channels ≡ true
  pub pre_skip : h.pre_skip < 2 ^ 16
  pub rate : h.rate < 2 ^ 32
  pub gain : FitsSigned w16 h.gain
  pub family : h.family < 256
  pub table : IsTable h.family h.channels h.table
  pub plain : h.version ≡ 1 → h.extra ≡ []
  pub extra : AreBytes h.extra
