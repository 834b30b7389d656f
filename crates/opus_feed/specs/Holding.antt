-- How many bytes a feed keeps, by what its bytes say.
use Rattle.std.specs.Prelude.{ℕ, ◌+◌, ◌-◌, min, List, length}
use Rattle.opus_flen.specs.FrameLength.{length_bytes}
use Rattle.opus_packet.specs.Value.{max_frame}
use Rattle.opus_packet.specs.Header.{header_bytes}
use Rattle.opus_packet.specs.HeaderRead.{HeaderRead, whole, partial, refused, header_read}
use Rattle.opus_packet.specs.SelfPrefix.{SelfHeaderRead, sized, unsized, never, self_header_read}
use Rattle.opus_feed.specs.Bodies.{kept_behind}
use Rattle.opus_feed.specs.declared.framing.Framing.{Framing}
use Rattle.opus_feed.specs.declared.framing.Framing.TheVariants.{Whole, SelfDelimited}
use Rattle.opus_feed.specs.declared.padding.Padding.{Padding}

-- of so many bytes those behind the header, up to the largest frames and the padding that is kept
abbrev pub held_whole : Padding → HeaderRead → ℕ → ℕ
held_whole padding (whole h) size = min (kept_behind padding h max_frame) (size - length (header_bytes h))
held_whole padding partial size = 0
held_whole padding (refused rule place) size = 0

-- the same up to the frames that the header tells
abbrev pub held_self : Padding → SelfHeaderRead → ℕ → ℕ
held_self padding (sized h n) size =
    min (kept_behind padding h n) (size - (length (header_bytes h) + length (length_bytes n)))
held_self padding unsized size = 0
held_self padding (never rule place) size = 0

abbrev pub held_of : Framing → Padding → List ℕ → ℕ
held_of Whole padding bytes = held_whole padding (header_read bytes) (length bytes)
held_of SelfDelimited padding bytes = held_self padding (self_header_read bytes) (length bytes)
