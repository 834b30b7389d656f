-- What is shown of a payload of an `opus_demo` store of multistream packets.
use Rattle.std.specs.Prelude.{ℕ, ◌<◌, List, length}
use Rattle.job_loop.specs.Shown.{Shown}
use Rattle.pack_records.specs.StoreRests as rests
use Rattle.stream_records.specs.declared.item.StreamsItem.{StreamsItem}
use Rattle.stream_records.specs.Demo.{ShowsPayload}
use Rattle.stream_records.specs.Holds.{Choices, Holds}
use Rattle.stream_records.specs.StreamReading.{streams_show}

pub some_shows : (c : Choices) (start range : ℕ) (payload : List ℕ) (r : Shown StreamsItem) → 0 < length payload
    → Holds c start range payload r → ShowsPayload c start range payload r
some_shows c = rests.some_shows (streams_show c)
