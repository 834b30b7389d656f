-- What is wrong with bytes that are no RTP packet: the first check that fails. The order of the checks is this
-- project's.
use Rattle.std.specs.Prelude.{ℕ, ◌+◌, ◌-◌, ◌*◌, ◌/◌, ◌%◌, Bool, not, ◌==◌, ◌||◌, ◌&&◌, nat_lt, if◌then◌else◌, List, length, drop, slice_index, Option, None, Some}
use Rattle.byteorder.specs.Endian.{big_number}
use Rattle.rtp_packet.specs.declared.fault.RtpFault.{RtpFault}
use Rattle.rtp_packet.specs.declared.fault.RtpFault.TheVariants.{Short, Version, Csrc, Extension, Padding}

-- the fields of the first byte (RFC 3550, 5.1)

abbrev pub version_in : List ℕ → ℕ
version_in bytes = slice_index bytes 0 / 64

abbrev pub has_padding : List ℕ → Bool
has_padding bytes = slice_index bytes 0 / 32 % 2 == 1

abbrev pub has_extension : List ℕ → Bool
has_extension bytes = slice_index bytes 0 / 16 % 2 == 1

abbrev pub csrc_count : List ℕ → ℕ
csrc_count bytes = slice_index bytes 0 % 16

-- bytes up to the end of the CSRCs
abbrev pub csrc_end : List ℕ → ℕ
csrc_end bytes = 12 + 4 * csrc_count bytes

-- words of the extension that stands behind the CSRCs, as its second number tells (5.3.1)
abbrev pub extension_words : List ℕ → ℕ
extension_words bytes = big_number 2 (drop (csrc_end bytes + 2) bytes)

-- bytes up to the end of the extension, if there is one: what stands before payload and padding
abbrev pub header_size : List ℕ → ℕ
header_size bytes =
    if has_extension bytes then csrc_end bytes + 4 + 4 * extension_words bytes else csrc_end bytes

-- bytes of payload and padding
abbrev pub body_size : List ℕ → ℕ
body_size bytes = length bytes - header_size bytes

abbrev pub last_byte : List ℕ → ℕ
last_byte bytes = slice_index bytes (length bytes - 1)

-- padding bytes, which the last byte of all counts
abbrev pub padding_in : List ℕ → ℕ
padding_in bytes = if has_padding bytes then last_byte bytes else 0

-- no byte is left for the padding, or its count is 0, or above the bytes that are left
abbrev pub is_bad_padding : List ℕ → Bool
is_bad_padding bytes =
    (body_size bytes == 0) || (last_byte bytes == 0) || nat_lt (body_size bytes) (last_byte bytes)

-- the first check that fails
unfoldable pub rtp_fault : List ℕ → Option RtpFault
rtp_fault bytes =
    if nat_lt (length bytes) 12 then Some Short
    else if not (version_in bytes == 2) then Some Version
    else if nat_lt (length bytes) (csrc_end bytes) then Some Csrc
    else if nat_lt (length bytes) (header_size bytes) then Some Extension
    else if has_padding bytes && is_bad_padding bytes then Some Padding
    else None
