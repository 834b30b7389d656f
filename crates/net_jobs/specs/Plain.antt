-- The canonical form and the duration of a packet, as lent bytes tell them.
use Rattle.std.specs.Prelude.{◌≡◌, ℕ, zero, suc, ◌≤◌, if◌then◌else◌, List, [], ◌∷◌, length, Option, Some, None}
use Rattle.opus_packet.specs.Value.{PacketValue, duration_of}
use Rattle.opus_packet.specs.Canonical.{canonical}
use Rattle.opus_packet.specs.HeaderRead.{padded_of, frames_of}
use Rattle.opus_feed.specs.declared.framing.Framing.{Framing}
use Rattle.pack_records.specs.Lent.{lent_value}

-- the bytes are the canonical form of the packet that they spell, and it lasts so many samples
pub record IsPlain (framing : Framing) (bytes : List ℕ) (samples : ℕ) : Type 0 where
  pub value : PacketValue
  pub spells : lent_value framing bytes ≡ Some value
  pub form : bytes ≡ canonical value
  pub lasts : samples ≡ duration_of value
  pub short : samples ≤ 5760
  pub size : length bytes ≤ 61295

-- how many frames a packet of this code has, by what stands behind its TOC byte; none where it has padding
-- (RFC 6716, 3.2)
abbrev pub plain_frames : ℕ → List ℕ → Option ℕ
plain_frames zero rest = Some 1
plain_frames (suc zero) rest = Some 2
plain_frames (suc (suc zero)) rest = Some 2
plain_frames (suc (suc (suc code))) [] = None
plain_frames (suc (suc (suc code))) (count ∷ rest) = if padded_of count then None else Some (frames_of count)
