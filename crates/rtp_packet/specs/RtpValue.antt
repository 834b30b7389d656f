-- What an RTP packet says, and what it can say (RFC 3550, 5.1 and 5.3.1).
pub use Rattle.opus_io.specs.Bytes.{AreBytes}
use Rattle.std.specs.Prelude.{◌≡◌, ℕ, ◌/◌, ◌%◌, ◌^◌, ◌<◌, ◌≤◌, Bool, List, length, Option, None, Some}

-- a header extension: the 16 bits that its profile defines, and its words of 32 bits as bytes (5.3.1)
pub record Extension : Type 0 where
  pub profile : ℕ
  pub words : List ℕ

-- A packet. The CSRCs are bytes, four for each; padding counts the bytes behind the payload, of which the last one is
-- that count.
pub record RtpValue : Type 0 where
  pub marker : Bool
  pub payload_type : ℕ
  pub seq : ℕ
  pub stamp : ℕ
  pub ssrc : ℕ
  pub csrc : List ℕ
  pub extension : Option Extension
  pub payload : List ℕ
  pub padding : ℕ

-- words of 32 bits, at most so many
pub record AreWords (most : ℕ) (bytes : List ℕ) : Type 0 where
  pub whole : length bytes % 4 ≡ 0
  pub fit : length bytes / 4 ≤ most

-- an extension has at most 65,535 words, or none (5.3.1)
pub record FitsExtension (e : Extension) : Type 0 where
  pub profile : e.profile < 2 ^ 16
  pub words : AreWords 65535 e.words

abbrev pub IsExtension : Option Extension → Type 0
IsExtension None = Unit {0}
IsExtension (Some e) = FitsExtension e

-- what can be sent as one packet: each number fits its bits, and there are at most 15 CSRCs (5.1)
pub record IsRtpValue (p : RtpValue) : Type 0 where
  pub payload_type : p.payload_type < 2 ^ 7
  pub seq : p.seq < 2 ^ 16
  pub stamp : p.stamp < 2 ^ 32
  pub ssrc : p.ssrc < 2 ^ 32
  pub csrc : AreWords 15 p.csrc
  pub extension : IsExtension p.extension
  pub padding : p.padding < 2 ^ 8
