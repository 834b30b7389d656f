-- What is wrong with bytes that are no head: the first check that fails. A check looks at fields of the bytes; where
-- one of them isn't whole, the bytes are cut. The order of the checks is this project's.
use Rattle.std.specs.Prelude.{ℕ, ◌+◌, ◌*◌, Bool, not, ◌==◌, ◌||◌, ◌&&◌, nat_lt, nat_le, if◌then◌else◌, List, length, slice_index, slice_range, Option, None, Some}
use Rattle.std.specs.List.{prefix_len, common_prefix_len}
use Rattle.std.specs.Option.{option_or}
use Rattle.opus_head.specs.ChannelCount.{is_channel_count}
use Rattle.opus_head.specs.HeadValue.{is_map_byte}
use Rattle.opus_head.specs.HeadBytes.{magic}
use Rattle.opus_head.specs.declared.fault.HeadFault.{HeadFault}
use Rattle.opus_head.specs.declared.fault.HeadFault.TheVariants.{Magic, Cut, Version, Channels, Streams, Coupled, MapByte, Extra, NoMemory}

-- the fields that stand at fixed places

abbrev pub version_in : List ℕ → ℕ
version_in bytes = slice_index bytes 8

abbrev pub channels_in : List ℕ → ℕ
channels_in bytes = slice_index bytes 9

abbrev pub family_in : List ℕ → ℕ
family_in bytes = slice_index bytes 18

abbrev pub streams_in : List ℕ → ℕ
streams_in bytes = slice_index bytes 19

abbrev pub coupled_in : List ℕ → ℕ
coupled_in bytes = slice_index bytes 20

abbrev pub decoded_in : List ℕ → ℕ
decoded_in bytes = streams_in bytes + coupled_in bytes

-- bytes of the mapping, or of the factors
abbrev pub mapping_size : List ℕ → ℕ
mapping_size bytes =
    if family_in bytes == 3 then 2 * (decoded_in bytes * channels_in bytes) else channels_in bytes

-- bytes up to the end of the table
abbrev pub head_size : List ℕ → ℕ
head_size bytes = if family_in bytes == 0 then 19 else 21 + mapping_size bytes

-- more bytes than any head has up to the end of its table: 21, and 2 * 255 * 227 of the factors of family 3
abbrev pub past_tables : ℕ
past_tables = 115792

-- a check that looks at fields in the first bytes, so many: what it finds wrong, if anything
abbrev pub checked : List ℕ → ℕ → Bool → HeadFault → Option HeadFault
checked bytes size bad fault =
    if nat_le size (length bytes) then (if bad then Some fault else None)
    else Some (Cut (length bytes))

-- the bytes that begin as `OpusHead` does
abbrev pub magic_len : List ℕ → ℕ
magic_len bytes = common_prefix_len (λ wanted found. wanted == found) magic bytes

abbrev pub magic_fault : List ℕ → Option HeadFault
magic_fault bytes =
    if magic_len bytes == 8 then None
    else if nat_lt (magic_len bytes) (length bytes) then Some (Magic (magic_len bytes))
    else Some (Cut (length bytes))

abbrev pub front_fault : List ℕ → Option HeadFault
front_fault bytes =
    option_or (checked bytes 9 (nat_lt 15 (version_in bytes)) Version)
    (option_or (checked bytes 10 (channels_in bytes == 0) Channels)
    (checked bytes 19 (not (is_channel_count (family_in bytes) (channels_in bytes))) Channels))

-- the mapping bytes in front of the first that isn't one
abbrev pub known_mapping : List ℕ → ℕ
known_mapping bytes =
    prefix_len (is_map_byte (decoded_in bytes)) (slice_range bytes 21 (21 + channels_in bytes))

abbrev pub mapping_fault : List ℕ → Option HeadFault
mapping_fault bytes =
    if family_in bytes == 3 then None
    else checked bytes (21 + channels_in bytes) (nat_lt (known_mapping bytes) (channels_in bytes))
    (MapByte (known_mapping bytes))

abbrev pub table_fault : List ℕ → Option HeadFault
table_fault bytes =
    if family_in bytes == 0 then None
    else option_or (checked bytes 20 (streams_in bytes == 0) Streams)
    (option_or (checked bytes 21
    (nat_lt (streams_in bytes) (coupled_in bytes) || nat_lt 255 (decoded_in bytes)) Coupled)
    (mapping_fault bytes))

abbrev pub end_fault : List ℕ → Option HeadFault
end_fault bytes =
    checked bytes (head_size bytes)
    ((version_in bytes == 1) && nat_lt (head_size bytes) (length bytes)) Extra

-- the first check that fails
unfoldable pub head_fault : List ℕ → Option HeadFault
head_fault bytes =
    option_or (magic_fault bytes)
    (option_or (front_fault bytes) (option_or (table_fault bytes) (end_fault bytes)))

-- where a fault shows: the index of the field that is wrong, of the end, or of the first byte too many
abbrev pub fault_place : List ℕ → HeadFault → ℕ
fault_place bytes (Magic place) = place
fault_place bytes (Cut place) = place
fault_place bytes Version = 8
fault_place bytes Channels = 9
fault_place bytes Streams = 19
fault_place bytes Coupled = 20
fault_place bytes (MapByte channel) = 21 + channel
fault_place bytes Extra = head_size bytes
fault_place bytes NoMemory = 0
