-- The value of a packet, told by the bytes that are lent of it.
use Rattle.std.specs.Prelude.{ℕ, ◌+◌, ◌-◌, ◌/◌, nat_le, ◌&&◌, ◌==◌, if◌then◌else◌, List, length, drop, sum, Option, Some, None}
use Rattle.opus_flen.specs.FrameLength.{length_bytes}
use Rattle.opus_packet.specs.Value.{PacketValue, max_frame}
use Rattle.opus_packet.specs.Header.{Header, Sizes, equal, given, header_bytes, body_size, padding_data}
use Rattle.opus_packet.specs.HeaderRead.{HeaderRead, whole, partial, refused, header_read}
use Rattle.opus_packet.specs.HeaderStands.{value_at}
use Rattle.opus_packet.specs.SelfPrefix.{SelfHeaderRead, sized, unsized, never, self_header_read, self_size}
use Rattle.opus_self.specs.ValueBehind.{value_behind}
use Rattle.opus_feed.specs.declared.framing.Framing.{Framing}
use Rattle.opus_feed.specs.declared.framing.Framing.TheVariants.{Whole, SelfDelimited}

-- the last frame's length, where all frames have so many bytes
abbrev pub last_in : Sizes → ℕ → ℕ
last_in (equal count) body = body / count
last_in (given lengths) body = body - sum lengths

-- bytes of the packet with this header, whose last frame has n
abbrev pub whole_size : Header → ℕ → ℕ
whole_size h n = length (header_bytes h) + body_size h.sizes n + padding_data h.shape.pad

-- the last frame's length, where header, frames and padding have so many bytes
abbrev pub last_for : Header → ℕ → ℕ
last_for h size = last_in h.sizes (size - length (header_bytes h) - padding_data h.shape.pad)

-- the value with this header and a last frame of n bytes, if that can be a frame and the packet is all of the bytes
abbrev pub value_if : Header → ℕ → List ℕ → Option PacketValue
value_if h n bytes =
    if nat_le n max_frame && (length bytes == whole_size h n) then Some (value_at h n bytes) else None

-- the value of an undelimited packet, by what its first bytes say (RFC 6716, 3.2)
abbrev pub whole_value : HeaderRead → List ℕ → Option PacketValue
whole_value (whole h) bytes = value_if h (last_for h (length bytes)) bytes
whole_value partial bytes = None
whole_value (refused rule place) bytes = None

-- the bytes behind a header and the last frame's length
abbrev pub behind : Header → ℕ → List ℕ → List ℕ
behind h n bytes = drop (length (header_bytes h) + length (length_bytes n)) bytes

-- the value of a self-delimited packet (RFC 6716, Appendix B)
abbrev pub self_value : SelfHeaderRead → List ℕ → Option PacketValue
self_value (sized h n) bytes =
    if length bytes == self_size h n then Some (value_behind h n (behind h n bytes)) else None
self_value unsized bytes = None
self_value (never rule place) bytes = None

-- the value that the bytes spell in a framing, all of them and no more; none where they spell none
unfoldable pub lent_value : Framing → List ℕ → Option PacketValue
lent_value Whole bytes = whole_value (header_read bytes) bytes
lent_value SelfDelimited bytes = self_value (self_header_read bytes) bytes
