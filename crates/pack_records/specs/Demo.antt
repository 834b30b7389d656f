-- An `opus_demo` store as an input of packets: the records that its bytes decide.
pub use Rattle.pack_records.specs.Stores.{StoreRecord, store_of, IsStoreRecord, CutPayload, cut_at}
use Rattle.std.specs.Prelude.{ℕ, List, Option}
use Rattle.job_loop.specs.Shown.{Shown}
use Rattle.opus_feed.specs.declared.padding.Padding.{Padding}
use Rattle.pack_records.specs.declared.item.Item.{Item}
use Rattle.pack_records.specs.declared.cut.Cut.{Cut}
use Rattle.pack_records.specs.Stores as stores
use Rattle.pack_records.specs.Undelimited.{packet_decides, packet_shows}

-- A record without a payload is a lost packet. Any other shows what its payload holds, whose first byte stands at
-- `start`.
abbrev pub ShowsPayload : Padding → ℕ → ℕ → List ℕ → Shown Item → Type 0
ShowsPayload padding = stores.ShowsPayload (packet_shows padding)

-- The rest of a store begins at `at`. No packet begins as its payload does: that is decided, and one record shows it.
abbrev pub EarlyRest : ℕ → List ℕ → List (Shown Item) → Type 0
EarlyRest = stores.EarlyRest packet_decides

abbrev pub ShowsRest : ℕ → List ℕ → List (Shown Item) → Type 0
ShowsRest = stores.ShowsRest packet_decides

-- what is shown of whole records, of which the first begins at `at`, and of the rest behind them
abbrev pub ShowsStore : Padding → ℕ → List StoreRecord → List ℕ → List (Shown Item) → Type 0
ShowsStore padding = stores.ShowsStore (packet_shows padding)

-- these records are decided, however the input goes on
abbrev pub DemoSettles : Padding → List ℕ → List (Shown Item) → Type 0
DemoSettles padding = stores.Settles (packet_shows padding)

-- the records and the cut of a whole input
abbrev pub DemoEnds : Padding → List ℕ → List (Shown Item) → Option Cut → Type 0
DemoEnds padding = stores.Ends (packet_shows padding)
