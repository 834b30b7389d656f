-- Faults that are decided before a record ends.
use Rattle.std.specs.Prelude.{◌≡◌, ℕ, ◌+◌, ◌<◌, List, length}
use Rattle.opus_feed.specs.declared.framing.Framing.{Framing}
use Rattle.opus_feed.specs.Packets.{fault_of}

-- the fault's place stands before the end of what is there: no bytes behind it can make a packet
abbrev pub IsEarly : Framing → List ℕ → Type 0
IsEarly framing bytes = (fault_of framing bytes).place < length bytes

-- the byte at the fault's place is the last one
abbrev pub IsDecided : Framing → List ℕ → Type 0
IsDecided framing bytes = (fault_of framing bytes).place + 1 ≡ length bytes
