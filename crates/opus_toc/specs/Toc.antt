-- The TOC byte, which begins each packet (RFC 6716, 3.1).
use Rattle.std.specs.Prelude.{ℕ, ◌+◌, ◌*◌, ◌/◌, ◌%◌, Bool, ◌==◌, if◌then◌else◌}

-- the configuration: the top five bits
abbrev pub config_of : ℕ → ℕ
config_of byte = byte / 8

-- whether the packet is stereo: the bit below them
abbrev pub stereo_of : ℕ → Bool
stereo_of byte = (byte / 4) % 2 == 1

-- the frame count code: the low two bits
abbrev pub code_of : ℕ → ℕ
code_of byte = byte % 4

-- the byte that has this configuration, these channels and this code
abbrev pub toc_byte : ℕ → Bool → ℕ → ℕ
toc_byte config stereo code = 8 * config + 4 * (if stereo then 1 else 0) + code
