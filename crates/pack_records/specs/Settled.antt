-- What bytes that are no packet settle before they end.
use Rattle.std.specs.Prelude.{ℕ, List, [], ◌∷◌, length, nat_lt, if◌then◌else◌}
use Rattle.job_loop.specs.Shown.{Shown}
use Rattle.opus_feed.specs.declared.framing.Framing.{Framing}
use Rattle.opus_feed.specs.Packets.{fault_of}
use Rattle.pack_records.specs.declared.item.Item.{Item}
use Rattle.pack_records.specs.Holds.{bad_record}

-- One record with their fault, where its place stands before the end of what is there; none otherwise. The first of
-- the bytes stands at `start`.
abbrev pub early_records : Framing → ℕ → List ℕ → List (Shown Item)
early_records framing start bytes =
    if nat_lt (fault_of framing bytes).place (length bytes)
    then bad_record start 0 (fault_of framing bytes) (length bytes) ∷ []
    else []
