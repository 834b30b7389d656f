-- The rest of an `opus_demo` store of packets.
use Rattle.std.specs.Prelude.{ℕ, ◌<◌, List, length}
use Rattle.pack_records.specs.Stores.{IsUndecided}
use Rattle.pack_records.specs.Undelimited.{packet_decides}
use Rattle.pack_records.proofs.StoreFronts as fronts

-- nothing of a head that isn't whole is decided
pub undecided_short : (rest : List ℕ) → length rest < 8 → IsUndecided packet_decides rest
undecided_short = fronts.undecided_short packet_decides
