-- What can still become an undelimited packet. The definition is arithmetic on what the header says so
-- far; a law in src/laws.rt says that it means: some continuation is a packet.
use Rattle.std.specs.Prelude.{ℕ, ◌+◌, ◌≤◌, List, ◌++◌, length}
pub use Rattle.opus_io.specs.Bytes.{AreBytes}
use Rattle.opus_packet.specs.Value.{max_frame}
use Rattle.opus_packet.specs.Header.{Header, header_bytes, body_size, padding_data}
use Rattle.opus_packet.specs.HeaderRead.{HeaderRead, whole, partial, refused, header_read}
use Rattle.opus_packet.specs.PacketGrammar.{IsSomePacket}

-- the bytes of the longest packet with this header
abbrev pub most_bytes : Header → ℕ
most_bytes h =
    length (header_bytes h) + body_size h.sizes max_frame + padding_data h.shape.pad

-- so many bytes, of which the first say this, can become a packet
abbrev pub CanBecome : HeaderRead → ℕ → Type 0
CanBecome (whole h) size = size ≤ most_bytes h
CanBecome partial size = Unit {0}
CanBecome (refused rule place) size = ⊥

-- the bytes can become a packet
abbrev pub IsPacketPrefix : List ℕ → Type 0
IsPacketPrefix bytes = CanBecome (header_read bytes) (length bytes)

-- some continuation is a packet
abbrev pub BecomesPacket : List ℕ → Type 0
BecomesPacket bytes = (more : List ℕ) × AreBytes more × IsSomePacket (bytes ++ more)
