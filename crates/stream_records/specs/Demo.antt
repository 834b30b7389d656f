-- An `opus_demo` store as an input of multistream packets: the records that its bytes decide.
use Rattle.std.specs.Prelude.{ℕ, List, Option}
use Rattle.job_loop.specs.Shown.{Shown}
use Rattle.pack_records.specs.declared.cut.Cut.{Cut}
use Rattle.pack_records.specs.Stores as stores
use Rattle.pack_records.specs.Stores.{StoreRecord}
use Rattle.stream_records.specs.declared.item.StreamsItem.{StreamsItem}
use Rattle.stream_records.specs.Holds.{Choices}
use Rattle.stream_records.specs.StreamReading.{streams_decide, streams_show}

-- A record without a payload is a lost packet. Any other shows what its payload holds, whose first byte stands at
-- `start`.
abbrev pub ShowsPayload : Choices → ℕ → ℕ → List ℕ → Shown StreamsItem → Type 0
ShowsPayload c = stores.ShowsPayload (streams_show c)

-- The rest of a store begins at `at`. A stream of its payload doesn't read, however that goes on: that is decided, and
-- one record shows it. Or nothing of the rest is decided, and nothing is shown of it.
abbrev pub ShowsRest : ℕ → ℕ → List ℕ → List (Shown StreamsItem) → Type 0
ShowsRest count = stores.ShowsRest (streams_decide count)

-- what is shown of whole records, of which the first begins at `at`, and of the rest behind them
abbrev pub ShowsStore : Choices → ℕ → List StoreRecord → List ℕ → List (Shown StreamsItem) → Type 0
ShowsStore c = stores.ShowsStore (streams_show c)

-- these records are decided, however the input goes on
abbrev pub DemoSettles : Choices → List ℕ → List (Shown StreamsItem) → Type 0
DemoSettles c = stores.Settles (streams_show c)

-- the records and the cut of a whole input
abbrev pub DemoEnds : Choices → List ℕ → List (Shown StreamsItem) → Option Cut → Type 0
DemoEnds c = stores.Ends (streams_show c)
