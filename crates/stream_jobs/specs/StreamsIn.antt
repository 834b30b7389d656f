-- The values of the streams whose packets stand in some bytes, one after another: self-delimited ones, and then an
-- undelimited one (RFC 7845, section 3).
use Rattle.std.specs.Prelude.{ℕ, zero, suc, List, [], ◌∷◌, length, take, drop, Option, Some, None}
use Rattle.opus_packet.specs.Value.{PacketValue}
use Rattle.opus_packet.specs.SelfPrefix.{SelfHeaderRead, sized, unsized, never, self_header_read, self_size}
use Rattle.opus_feed.specs.declared.framing.Framing.{Framing}
use Rattle.opus_feed.specs.declared.framing.Framing.TheVariants.{Whole, SelfDelimited}
use Rattle.pack_records.specs.Lent.{lent_value}

-- only the last stream's packet is undelimited: that of a stream behind which so many stand
abbrev pub framing_before : ℕ → Framing
framing_before zero = Whole
framing_before (suc behind) = SelfDelimited

-- how many bytes a self-delimited packet has, as its header says
abbrev pub told_size : SelfHeaderRead → ℕ
told_size (sized h n) = self_size h n
told_size unsized = 0
told_size (never rule place) = 0

-- how many bytes the packet has that stands first in this framing
abbrev pub first_size : Framing → List ℕ → ℕ
first_size Whole bytes = length bytes
first_size SelfDelimited bytes = told_size (self_header_read bytes)

-- the value of the packet that stands first, if one does
unfoldable pub first_value : Framing → List ℕ → Option PacketValue
first_value framing bytes = lent_value framing (take (first_size framing bytes) bytes)

-- a value and then others, if there is one
abbrev pub first_then : Option PacketValue → List PacketValue → List PacketValue
first_then None vs = []
first_then (Some v) vs = v ∷ vs

-- the values of so many streams, up to the first whose packet doesn't stand there
abbrev pub streams_in : ℕ → List ℕ → List PacketValue
streams_in zero bytes = []
streams_in (suc behind) bytes =
    first_then (first_value (framing_before behind) bytes)
    (streams_in behind (drop (first_size (framing_before behind) bytes) bytes))
