-- What is kept of a packet's padding bytes.
use Rattle.std.specs.Prelude.{ℕ, ◌==◌, if◌then◌else◌, List, [], ◌∷◌, length, take}
use Rattle.opus_packet.specs.Tail.{TailRead, kept, counted, tail_of}
use Rattle.opus_feed.specs.Bodies.{kept_tail}
use Rattle.opus_feed.specs.declared.padding.Padding.{Padding}
use Rattle.opus_feed.specs.declared.padding.Padding.TheVariants.{Drop, Keep}

-- with Drop they are counted, where there are any; with Keep the bytes are kept, at most 65,535 of them
abbrev pub tail_kept : Padding → List ℕ → TailRead
tail_kept Drop [] = kept []
tail_kept Drop (x ∷ xs) = counted (length (x ∷ xs))
tail_kept Keep bytes = tail_of bytes

-- so many padding bytes, which stand first in these bytes where they are kept
abbrev pub tail_by : Padding → ℕ → List ℕ → TailRead
tail_by padding count bytes =
    if kept_tail padding count == count then kept (take count bytes) else counted count
