-- What can still become a self-delimited packet, and why bytes don't begin with one: arithmetic on what the
-- header says so far, which is the same for both framings up to the last frame's length.
use Rattle.std.specs.Prelude.{ℕ, ◌+◌, ◌≤◌, List, length, drop}
use Rattle.opus_flen.specs.declared.frame_length.LenRead.{LenRead}
use Rattle.opus_flen.specs.declared.frame_length.LenRead.TheVariants.{Len, Cut as CutLength}
use Rattle.opus_flen.specs.FrameLength.{length_bytes, length_read}
use Rattle.opus_packet.specs.declared.fault.Rule.{Rule}
use Rattle.opus_packet.specs.declared.fault.Rule.TheVariants.{Cut}
use Rattle.opus_packet.specs.declared.fault.Fault.{Fault}
use Rattle.opus_packet.specs.Header.{Header, header_bytes, body_size, padding_data}
use Rattle.opus_packet.specs.HeaderRead.{HeaderRead, whole, partial, refused, header_read}
use Rattle.opus_packet.specs.PacketFault.{fault}

-- a header with the last frame's length stands first; or a part of one; or none begins so
pub data SelfHeaderRead : Type 0 where
  sized : Header → ℕ → SelfHeaderRead
  unsized : SelfHeaderRead
  never : Rule → ℕ → SelfHeaderRead

-- a header, and the length behind it
abbrev pub with_last : Header → LenRead → SelfHeaderRead
with_last h (Len n used) = sized h n
with_last h CutLength = unsized

-- what the bytes say behind what `header_read` says
abbrev pub after_header : List ℕ → HeaderRead → SelfHeaderRead
after_header bytes (whole h) = with_last h (length_read (drop (length (header_bytes h)) bytes))
after_header bytes partial = unsized
after_header bytes (refused rule place) = never rule place

-- what the first bytes say, the last frame's length included
abbrev pub self_header_read : List ℕ → SelfHeaderRead
self_header_read bytes = after_header bytes (header_read bytes)

-- the bytes of the packet with this header, whose last frame has n
abbrev pub self_size : Header → ℕ → ℕ
self_size h n =
    length (header_bytes h) + length (length_bytes n) + body_size h.sizes n + padding_data h.shape.pad

-- so many bytes, of which the first say this, can become a self-delimited packet
abbrev pub CanBecomeSelf : SelfHeaderRead → ℕ → Type 0
CanBecomeSelf (sized h n) size = size ≤ self_size h n
CanBecomeSelf unsized size = Unit {0}
CanBecomeSelf (never rule place) size = ⊥

-- the bytes can become a self-delimited packet
abbrev pub IsSelfDelimitedPrefix : List ℕ → Type 0
IsSelfDelimitedPrefix bytes = CanBecomeSelf (self_header_read bytes) (length bytes)

-- the fault, by what the first bytes say
abbrev pub self_fault_by : SelfHeaderRead → ℕ → Fault
self_fault_by (sized h n) size = fault Cut size
self_fault_by unsized size = fault Cut size
self_fault_by (never rule place) size = fault rule place

-- the fault of bytes that don't begin with a self-delimited packet: the rule, and the length of the longest
-- front that one can begin with
abbrev pub self_delimited_fault : List ℕ → Fault
self_delimited_fault bytes = self_fault_by (self_header_read bytes) (length bytes)
