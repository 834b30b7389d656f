-- The bytes of an RTP packet, numbers with the highest byte first (RFC 3550, 5.1 and 5.3.1).
use Rattle.std.specs.Prelude.{◌≡◌, ℕ, ◌+◌, ◌-◌, ◌*◌, ◌/◌, ◌≤◌, Bool, not, ◌==◌, if◌then◌else◌, List, [], ◌∷◌, ◌++◌, length, slice_index, Option, None, Some, is_some}
use Rattle.std.specs.Int.{w16, w32, to_be_bytes}
use Rattle.rtp_packet.specs.RtpValue.{Extension, RtpValue, IsRtpValue}

abbrev pub bit : Bool → ℕ
bit b = if b then 1 else 0

-- two bits of the version, which is 2, the padding bit, the extension bit, and four bits that count the CSRCs
abbrev pub first_byte : RtpValue → ℕ
first_byte p =
    64 * 2 + 32 * bit (not (p.padding == 0)) + 16 * bit (is_some p.extension) + length p.csrc / 4

-- the marker bit, and seven bits of the payload type
abbrev pub second_byte : RtpValue → ℕ
second_byte p = 128 * bit p.marker + p.payload_type

-- the 12 bytes that each packet has, which end with sequence number, timestamp and SSRC
abbrev pub front_bytes : RtpValue → List ℕ
front_bytes p =
    first_byte p ∷ second_byte p ∷ (to_be_bytes w16 p.seq ++ to_be_bytes w32 p.stamp ++ to_be_bytes w32 p.ssrc)

-- the profile's 16 bits, the count of words, and the words; or nothing
abbrev pub extension_bytes : Option Extension → List ℕ
extension_bytes None = []
extension_bytes (Some e) = to_be_bytes w16 e.profile ++ to_be_bytes w16 (length e.words / 4) ++ e.words

-- the one spelling of a packet with these padding bytes
abbrev pub rtp_bytes : RtpValue → List ℕ → List ℕ
rtp_bytes p padding = front_bytes p ++ p.csrc ++ extension_bytes p.extension ++ p.payload ++ padding

-- so many padding bytes: the last one is their count, and the others may be any
pub record IsPadding (count : ℕ) (padding : List ℕ) : Type 0 where
  pub size : length padding ≡ count
  pub last : 1 ≤ count → slice_index padding (count - 1) ≡ count

-- the bytes are a packet that says this
pub record IsRtp (p : RtpValue) (bytes : List ℕ) : Type 0 where
  pub value : IsRtpValue p
  pub padding : List ℕ
  pub counted : IsPadding p.padding padding
  pub spelled : bytes ≡ rtp_bytes p padding
