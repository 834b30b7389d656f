-- What is shown of a payload of an `opus_demo` store.
use Rattle.std.specs.Prelude.{ℕ, ◌<◌, List, length}
use Rattle.job_loop.specs.Shown.{Shown}
use Rattle.opus_feed.specs.declared.framing.Framing.TheVariants.{Whole}
use Rattle.opus_feed.specs.declared.padding.Padding.{Padding}
use Rattle.pack_records.specs.declared.item.Item.{Item}
use Rattle.pack_records.specs.Demo.{ShowsPayload}
use Rattle.pack_records.specs.Holds.{Holds}
use Rattle.pack_records.specs.StoreRests as rests
use Rattle.pack_records.specs.Undelimited.{packet_shows}

pub some_shows : (padding : Padding) (start range : ℕ) (payload : List ℕ) (r : Shown Item) → 0 < length payload
    → Holds padding Whole start range payload r → ShowsPayload padding start range payload r
some_shows padding = rests.some_shows (packet_shows padding)
