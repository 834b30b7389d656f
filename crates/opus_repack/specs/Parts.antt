-- Parts of a value, in a packet each: this project's own.
use Rattle.std.specs.Prelude.{ℕ, ◌+◌, List, [], ◌∷◌}
use Rattle.std.specs.List.{slice_range}
use Rattle.opus_packet.specs.Value.{PacketValue}

-- the frames from one place to before another
abbrev pub slice_of : PacketValue → ℕ → ℕ → PacketValue
slice_of v from to = record { config = v.config; stereo = v.stereo; frames = slice_range v.frames from to }

-- parts of so many frames each, in order, from a place on
abbrev pub parts_from : PacketValue → ℕ → List ℕ → List PacketValue
parts_from v from [] = []
parts_from v from (n ∷ ns) = slice_of v from (from + n) ∷ parts_from v (from + n) ns
