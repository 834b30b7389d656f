-- The rest of an `opus_demo` store of multistream packets.
use Rattle.std.specs.Prelude.{ℕ, ◌<◌, List, length}
use Rattle.pack_records.specs.Stores.{IsUndecided}
use Rattle.pack_records.proofs.StoreFronts as fronts
use Rattle.stream_records.specs.StreamReading.{streams_decide}

-- nothing of a head that isn't whole is decided
pub undecided_short : (count : ℕ) (rest : List ℕ) → length rest < 8 → IsUndecided (streams_decide count) rest
undecided_short count = fronts.undecided_short (streams_decide count)
